-- What is judged of a Core is the same whatever texts its text numbers stand for.
use Rattle.std.proofs.Common.{◌≡◌, ℕ, List, [], ◌∷◌, map, Result, Ok, Err, Some, None, refl, sym, ap, subst, ◌∙◌}
use Rattle.xq_base.specs.declared.axis.Axis.{Axis}
use Rattle.xq_base.specs.declared.axis.Axis.TheVariants as x
use Rattle.xq_base.specs.declared.axis.NodeTest.{NodeTest}
use Rattle.xq_base.specs.declared.item.Atom.{Atom as Held}
use Rattle.xq_base.specs.declared.item.Atom.TheVariants as a
use Rattle.xq_base.specs.Texts.{Text}
use Rattle.doc_table.specs.Tree.{text_in}
use Rattle.doc_table.specs.Axes.{Test, test_of, AnyNode, Named, Principal, IsText, IsComment, IsInstruction, IsDocumentNode, IsElement, IsAttribute}
use Rattle.doc_table.specs.Steps.{test_with}
use Rattle.doc_table.specs.Values.{kind_of_item, item_of_atom}
use Rattle.core_meaning.specs.declared.node.ItemType.{ItemType}
use Rattle.core_meaning.specs.declared.node.ItemType.TheVariants as i
use Rattle.core_meaning.specs.declared.node.Occurs.{Occurs}
use Rattle.core_meaning.specs.declared.node.SeqType.{SeqType}
use Rattle.core_meaning.specs.declared.node.SeqType.TheVariants as s
use Rattle.core_meaning.specs.declared.node.Core.{Core, roll-Core, map-Core}
use Rattle.core_meaning.specs.declared.node.CoreKind.{CoreKind, roll-CoreKind, map-CoreKind}
use Rattle.core_meaning.specs.declared.node.Bind.{Bind, roll-Bind, map-Bind}
use Rattle.core_meaning.specs.declared.node.SortKey.{SortKey, roll-SortKey, map-SortKey}
use Rattle.core_meaning.specs.declared.node.Bind.TheOpen as o
use Rattle.core_meaning.specs.declared.node.Bind.TheFolds.{fold-roll-Core, fold-roll-CoreKind, fold-roll-Bind, fold-roll-SortKey, ind-Core}
use Rattle.core_meaning.specs.PlainCore as c
use Rattle.core_meaning.specs.PlainCore.{PlainCore, PlainBind, PlainKey, Keys}
use Rattle.core_meaning.specs.Erasure.{Texts, atom_in, test_in, item_test, sequence_test, cores_of, binds_of, keys_of, core_of, kind_of, plain_bind, plain_key, form_of, node_of, bind_of, key_of}
use Rattle.xq_types.specs.Kinds.{Kinds, common_kinds, admitted, axis_kinds, step_kinds}
use Rattle.xq_types.specs.Types.{Typ, made, once_of, kinds_of_test, least_of_occurs, most_of_occurs, type_of_test, then_type, either_type, each_type}
use Rattle.xq_types.specs.Calls.{fun_type, bool_type}
use Rattle.xq_types.specs.Typing.{TypeEnv, with_type, loop_types, step_most, step_type, build_type, treat_type, convert_type, cast_or_none, where_type}
use Rattle.xq_types.specs.Refusals.{marks_of, marks_refuse}
use Rattle.xq_types.specs.Judging.{and_then, judge_call, judged, judged_all, judged_bind, judged_binds, judged_keys}

module _ {A B : Type 0} where
  and_after : (k : Result A ℕ) (g h : A → Result B ℕ) → ((v : A) → g v ≡ h v) → and_then k g ≡ and_then k h
  and_after (Ok v) g h q = q v
  and_after (Err n) g h q = refl

  and_same : (j k : Result A ℕ) (g h : A → Result B ℕ) → j ≡ k → ((v : A) → g v ≡ h v) → and_then j g ≡ and_then k h
  and_same j k g h p q = ap (λ r. and_then r g) p ∙ and_after k g h q

  -- one part, whose type is turned in the same way
  one_same : (j k : Result A ℕ) (f : A → B) → j ≡ k → and_then j (λ v. Ok (f v)) ≡ and_then k (λ v. Ok (f v))
  one_same j k f p = ap (λ r. and_then r (λ v. Ok (f v))) p

-- tests, whatever names they have
admitted_with : {A B : Type 0} (f : A → B) (test : Test A) → admitted (test_with f test) ≡ admitted test
admitted_with f AnyNode = refl
admitted_with f (Named m) = refl
admitted_with f Principal = refl
admitted_with f IsText = refl
admitted_with f IsComment = refl
admitted_with f (IsInstruction m) = refl
admitted_with f IsDocumentNode = refl
admitted_with f (IsElement m) = refl
admitted_with f (IsAttribute m) = refl

step_with : (axis : Axis) (p q : Test Text) → admitted p ≡ admitted q → step_kinds axis p ≡ step_kinds axis q
step_with x.Attribute p q e = refl
step_with x.Child p q e = ap (common_kinds (axis_kinds x.Child)) e
step_with x.Descendant p q e = ap (common_kinds (axis_kinds x.Descendant)) e
step_with x.SelfNode p q e = ap (common_kinds (axis_kinds x.SelfNode)) e
step_with x.DescendantOrSelf p q e = ap (common_kinds (axis_kinds x.DescendantOrSelf)) e
step_with x.FollowingSibling p q e = ap (common_kinds (axis_kinds x.FollowingSibling)) e
step_with x.Following p q e = ap (common_kinds (axis_kinds x.Following)) e
step_with x.Parent p q e = ap (common_kinds (axis_kinds x.Parent)) e
step_with x.Ancestor p q e = ap (common_kinds (axis_kinds x.Ancestor)) e
step_with x.PrecedingSibling p q e = ap (common_kinds (axis_kinds x.PrecedingSibling)) e
step_with x.Preceding p q e = ap (common_kinds (axis_kinds x.Preceding)) e
step_with x.AncestorOrSelf p q e = ap (common_kinds (axis_kinds x.AncestorOrSelf)) e

module _ (t : Texts) where
  admitted_same : (test : NodeTest) → admitted (test_in t test) ≡ admitted (test_in [] test)
  admitted_same test = admitted_with (text_in t) (test_of test) ∙ sym (admitted_with (text_in []) (test_of test))

  step_same : (axis : Axis) (test : NodeTest) (v : Typ) → step_type axis (test_in t test) v ≡ step_type axis (test_in [] test) v
  step_same axis test v = ap (λ ks. made ks 0 (step_most axis v)) (step_with axis (test_in t test) (test_in [] test) (admitted_same test))

  literal_same : (l : Held) → kind_of_item (item_of_atom (atom_in t l)) ≡ kind_of_item (item_of_atom (atom_in [] l))
  literal_same (a.Int z) = refl
  literal_same (a.Str n) = refl
  literal_same (a.Untyped n) = refl
  literal_same (a.Bool b) = refl

  items_same : (item : ItemType) → kinds_of_test (item_test t item) ≡ kinds_of_test (item_test [] item)
  items_same i.Any = refl
  items_same i.AnyAtomic = refl
  items_same (i.Atom kind) = refl
  items_same (i.Test test) = admitted_same test

  abbrev occurring : Occurs → Kinds → Typ
  occurring occurs ks = record { kinds = ks; least = least_of_occurs occurs; most = most_of_occurs occurs }

  sequence_same : (ty : SeqType) → type_of_test (sequence_test t ty) ≡ type_of_test (sequence_test [] ty)
  sequence_same s.Empty = refl
  sequence_same (s.Of item occurs) = ap (occurring occurs) (items_same item)

  convert_same : (ty : SeqType) (v : Typ) → convert_type (sequence_test t ty) v ≡ convert_type (sequence_test [] ty) v
  convert_same s.Empty v = refl
  convert_same (s.Of i.Any occurs) v = refl
  convert_same (s.Of i.AnyAtomic occurs) v = refl
  convert_same (s.Of (i.Atom kind) occurs) v = refl
  convert_same (s.Of (i.Test test) occurs) v = ap (λ ks. treat_type v (occurring occurs ks)) (admitted_same test)

  abbrev SameCore : Core → Type 0
  SameCore e = (types : TypeEnv) → judged types (core_of t e) ≡ judged types (core_of [] e)

  abbrev SameKind : CoreKind → Type 0
  SameKind k = (types : TypeEnv) (n : ℕ) → judged types (kind_of t k n) ≡ judged types (kind_of [] k n)

  abbrev SameBind : Bind → Type 0
  SameBind b = (types : TypeEnv) → judged_bind types (plain_bind t b) ≡ judged_bind types (plain_bind [] b)

  abbrev SameKey : SortKey → Type 0
  SameKey k = (types : TypeEnv) (ks ls : Keys) → judged_keys types ks ≡ judged_keys types ls → judged_keys types (c.one_key (plain_key t k) ks) ≡ judged_keys types (c.one_key (plain_key [] k) ls)

  abbrev SuchCore : Type 0
  SuchCore = (e : Core) × SameCore e

  abbrev SuchKind : Type 0
  SuchKind = (k : CoreKind) × SameKind k

  abbrev SuchBind : Type 0
  SuchBind = (b : Bind) × SameBind b

  abbrev SuchKey : Type 0
  SuchKey = (k : SortKey) × SameKey k

  -- lists of parts
  all_same : (es : List SuchCore) (types : TypeEnv) → judged_all types (cores_of (map (core_of t) (map (λ e. e.0) es))) ≡ judged_all types (cores_of (map (core_of []) (map (λ e. e.0) es)))
  all_same [] types = refl
  all_same (e ∷ es) types = and_same _ _ _ _ (e.1 types) (λ v. one_same _ _ (λ vs. v ∷ vs) (all_same es types))

  binds_same : (bs : List SuchBind) (types : TypeEnv) → judged_binds types (binds_of (map (plain_bind t) (map (λ e. e.0) bs))) ≡ judged_binds types (binds_of (map (plain_bind []) (map (λ e. e.0) bs)))
  binds_same [] types = refl
  binds_same (b ∷ bs) types = and_same _ _ _ _ (b.1 types) (λ p. one_same _ _ (λ q. (q.0, λ u. p.1 (q.1 u))) (binds_same bs p.0))

  keys_same : (ks : List SuchKey) (types : TypeEnv) → judged_keys types (keys_of (map (plain_key t) (map (λ e. e.0) ks))) ≡ judged_keys types (keys_of (map (plain_key []) (map (λ e. e.0) ks)))
  keys_same [] types = refl
  keys_same (k ∷ ks) types = k.1 types _ _ (keys_same ks types)

  -- one layer, over parts of which the same is known
  abbrev kind_firsts : o.CoreKind-F SuchBind SuchKind SuchCore SuchKey → o.CoreKind-F Bind CoreKind Core SortKey
  kind_firsts y = map-CoreKind SuchBind SuchKind SuchCore SuchKey Bind CoreKind Core SortKey (λ e. e.0) (λ e. e.0) (λ e. e.0) (λ e. e.0) y

  abbrev plain_kind : Texts → o.CoreKind-F Bind CoreKind Core SortKey → ℕ → PlainCore
  plain_kind ts k = form_of ts (map-CoreKind Bind CoreKind Core SortKey PlainBind (ℕ → PlainCore) PlainCore PlainKey (plain_bind ts) (kind_of ts) (core_of ts) (plain_key ts) k)

  kind_layer : (y : o.CoreKind-F SuchBind SuchKind SuchCore SuchKey) (types : TypeEnv) (n : ℕ) → judged types (plain_kind t (kind_firsts y) n) ≡ judged types (plain_kind [] (kind_firsts y) n)
  kind_layer (o.Lit l) types n = ap (λ k. Ok (once_of k)) (literal_same l)
  kind_layer o.Empty types n = refl
  kind_layer (o.Seq d e) types n = and_same _ _ _ _ (d.1 types) (λ v. one_same _ _ (then_type v) (e.1 types))
  kind_layer (o.Var v) types n = refl
  kind_layer (o.CoreKind::Let v d e) types n = and_same _ _ _ _ (d.1 types) (λ u. e.1 (with_type types v.0 u))
  kind_layer (o.CoreKind::For v p d e) types n = and_same _ _ _ _ (d.1 types) (λ u. one_same _ _ (each_type u) (e.1 (loop_types v.0 p.0 u types)))
  kind_layer (o.Sorted bs ks e) types n = and_same _ _ _ _ (binds_same bs types) (λ p. one_same _ _ p.1 (and_same _ _ _ _ (keys_same ks p.0) (λ _. e.1 p.0)))
  kind_layer (o.If d e g) types n = and_same _ _ _ _ (d.1 types) (λ _. and_same _ _ _ _ (e.1 types) (λ v. one_same _ _ (either_type v) (g.1 types)))
  kind_layer (o.Call f es) types n = ap (λ r. and_then r (λ vs. judge_call (marks_refuse (marks_of f) vs) n (fun_type f vs))) (all_same es types)
  kind_layer (o.Step from axis test e) types n = and_same _ _ _ _ (e.1 types) (λ v. ap (λ u. Ok u) (step_same axis test v))
  kind_layer (o.Build what None e) types n = one_same _ _ (build_type _) (one_same _ _ (λ v. v ∷ []) (e.1 types))
  kind_layer (o.Build what (Some d) e) types n = one_same _ _ (build_type _) (and_same _ _ _ _ (d.1 types) (λ v. one_same _ _ (λ vs. v ∷ vs) (one_same _ _ (λ u. u ∷ []) (e.1 types))))
  kind_layer (o.Instance e ty) types n = one_same _ _ (λ _. bool_type) (e.1 types)
  kind_layer (o.Treat e ty) types n = and_same _ _ _ _ (e.1 types) (λ v. ap (λ u. Ok (treat_type v u)) (sequence_same ty))
  kind_layer (o.Convert e ty) types n = and_same _ _ _ _ (e.1 types) (λ v. ap (λ u. Ok u) (convert_same ty v))
  kind_layer (o.Cast e kind optional) types n = one_same _ _ (cast_or_none kind optional) (e.1 types)
  kind_layer (o.Castable e kind optional) types n = one_same _ _ (λ _. bool_type) (e.1 types)
  kind_layer (o.Fail code) types n = refl

  kind_roll : (k : o.CoreKind-F Bind CoreKind Core SortKey) → ((types : TypeEnv) (n : ℕ) → judged types (plain_kind t k n) ≡ judged types (plain_kind [] k n)) → SameKind (roll-CoreKind k)
  kind_roll k h types n =
      ap (λ f. judged types (f n)) (fold-roll-CoreKind PlainBind (ℕ → PlainCore) PlainCore PlainKey (bind_of t) (form_of t) (node_of t) (key_of t) k)
      ∙ h types n
      ∙ sym (ap (λ f. judged types (f n)) (fold-roll-CoreKind PlainBind (ℕ → PlainCore) PlainCore PlainKey (bind_of []) (form_of []) (node_of []) (key_of []) k))

  abbrev bind_firsts : o.Bind-F SuchBind SuchKind SuchCore SuchKey → o.Bind-F Bind CoreKind Core SortKey
  bind_firsts y = map-Bind SuchBind SuchKind SuchCore SuchKey Bind CoreKind Core SortKey (λ e. e.0) (λ e. e.0) (λ e. e.0) (λ e. e.0) y

  abbrev plain_of_bind : Texts → o.Bind-F Bind CoreKind Core SortKey → PlainBind
  plain_of_bind ts b = bind_of ts (map-Bind Bind CoreKind Core SortKey PlainBind (ℕ → PlainCore) PlainCore PlainKey (plain_bind ts) (kind_of ts) (core_of ts) (plain_key ts) b)

  bind_layer : (y : o.Bind-F SuchBind SuchKind SuchCore SuchKey) (types : TypeEnv) → judged_bind types (plain_of_bind t (bind_firsts y)) ≡ judged_bind types (plain_of_bind [] (bind_firsts y))
  bind_layer (o.Bind::For v p e) types = one_same _ _ (λ u. (loop_types v.0 p.0 u types, each_type u)) (e.1 types)
  bind_layer (o.Bind::Let v e) types = one_same _ _ (λ u. (with_type types v.0 u, λ w. w)) (e.1 types)
  bind_layer (o.Where e) types = one_same _ _ (λ _. (types, where_type)) (e.1 types)

  bind_roll : (b : o.Bind-F Bind CoreKind Core SortKey) → ((types : TypeEnv) → judged_bind types (plain_of_bind t b) ≡ judged_bind types (plain_of_bind [] b)) → SameBind (roll-Bind b)
  bind_roll b h types =
      ap (judged_bind types) (fold-roll-Bind PlainBind (ℕ → PlainCore) PlainCore PlainKey (bind_of t) (form_of t) (node_of t) (key_of t) b)
      ∙ h types
      ∙ sym (ap (judged_bind types) (fold-roll-Bind PlainBind (ℕ → PlainCore) PlainCore PlainKey (bind_of []) (form_of []) (node_of []) (key_of []) b))

  abbrev core_firsts : o.Core-F SuchBind SuchKind SuchCore SuchKey → o.Core-F Bind CoreKind Core SortKey
  core_firsts y = map-Core SuchBind SuchKind SuchCore SuchKey Bind CoreKind Core SortKey (λ e. e.0) (λ e. e.0) (λ e. e.0) (λ e. e.0) y

  core_layer : (y : o.Core-F SuchBind SuchKind SuchCore SuchKey) → SameCore (roll-Core (core_firsts y))
  core_layer y types =
      ap (judged types) (fold-roll-Core PlainBind (ℕ → PlainCore) PlainCore PlainKey (bind_of t) (form_of t) (node_of t) (key_of t) (core_firsts y))
      ∙ y.kind.1 types y.offset
      ∙ sym (ap (judged types) (fold-roll-Core PlainBind (ℕ → PlainCore) PlainCore PlainKey (bind_of []) (form_of []) (node_of []) (key_of []) (core_firsts y)))

  abbrev key_firsts : o.SortKey-F SuchBind SuchKind SuchCore SuchKey → o.SortKey-F Bind CoreKind Core SortKey
  key_firsts y = map-SortKey SuchBind SuchKind SuchCore SuchKey Bind CoreKind Core SortKey (λ e. e.0) (λ e. e.0) (λ e. e.0) (λ e. e.0) y

  key_layer : (y : o.SortKey-F SuchBind SuchKind SuchCore SuchKey) → SameKey (roll-SortKey (key_firsts y))
  key_layer y types ks ls h =
      ap (λ k. judged_keys types (c.one_key k ks)) (fold-roll-SortKey PlainBind (ℕ → PlainCore) PlainCore PlainKey (bind_of t) (form_of t) (node_of t) (key_of t) (key_firsts y))
      ∙ and_same (judged types (core_of t y.key.0)) (judged types (core_of [] y.key.0)) (λ _. judged_keys types ks) (λ _. judged_keys types ls) (y.key.1 types) (λ _. h)
      ∙ sym (ap (λ k. judged_keys types (c.one_key k ls)) (fold-roll-SortKey PlainBind (ℕ → PlainCore) PlainCore PlainKey (bind_of []) (form_of []) (node_of []) (key_of []) (key_firsts y)))

  pub same_for_all : (e : Core) → SameCore e
  same_for_all = ind-Core SameBind SameKind SameCore SameKey
      (λ b y is. subst (λ z. SameBind (roll-Bind z)) is (bind_roll (bind_firsts y) (bind_layer y)))
      (λ k y is. subst (λ z. SameKind (roll-CoreKind z)) is (kind_roll (kind_firsts y) (kind_layer y)))
      (λ e y is. subst (λ z. SameCore (roll-Core z)) is (core_layer y))
      (λ k y is. subst (λ z. SameKey (roll-SortKey z)) is (key_layer y))
