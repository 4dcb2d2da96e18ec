-- A resolved node of each form stands for the node that is read, where its pieces do.
use Rattle.std.proofs.Common.{◌≡◌, refl, sym, ap, ◌∙◌, ℕ, Bool, map, length, List, Option}
use Rattle.xq_base.specs.declared.fun.AtomKind.{AtomKind}
use Rattle.xq_base.specs.declared.item.TextId.{TextId}
use Rattle.xq_base.specs.Texts.{Text}
use Rattle.doc_table.specs.OtherTexts.{Grows}
use Rattle.doc_table.specs.Tree.{text_in}
use Rattle.core_meaning.specs.Types.{SequenceTest}
use Rattle.xq_ast.specs.declared.leaf.Callee.{Callee}
use Rattle.xq_ast.specs.declared.leaf.Name.{Name}
use Rattle.xq_ast.specs.declared.leaf.Quantifier.{Quantifier}
use Rattle.xq_ast.specs.declared.leaf.BuildKind.{BuildKind}
use Rattle.xq_ast.specs.declared.leaf.ReadType.{ReadType}
use Rattle.xq_ast.specs.declared.leaf.SeqType.{SeqType}
use Rattle.xq_ast.specs.declared.leaf.TextRun.{TextRun}
use Rattle.xq_ast.specs.declared.node.Right.{Right as RightOf}
use Rattle.xq_ast.specs.declared.node.Signed.{Signed}
use Rattle.xq_ast.specs.declared.node.Start.{Start}
use Rattle.xq_ast.specs.declared.node.Step.{Step as StepOf}
use Rattle.xq_ast.specs.declared.node.StepKind.{StepKind as StepKindOf}
use Rattle.xq_ast.specs.declared.node.Behind.{Behind as BehindOf}
use Rattle.xq_ast.specs.declared.node.Clause.{Clause as ClauseOf}
use Rattle.xq_ast.specs.declared.node.QuantBind.{QuantBind as QuantOf}
use Rattle.xq_ast.specs.declared.node.Key.{Key as KeyOf}
use Rattle.xq_ast.specs.declared.node.BuildName.{BuildName as BuildNameOf}
use Rattle.xq_ast.specs.declared.node.Attribute.{Attribute as AttributeOf}
use Rattle.xq_ast.specs.declared.node.Part.{Part as PartOf}
use Rattle.xq_ast.specs.declared.node.ValuePart.{ValuePart as ValueOf}
use Rattle.xq_ast.specs.declared.node.Node.TheVariants as n
use Rattle.xq_ast.specs.Trees.{Bytes, Name as Named, Variable as ReadVariable, Tree, Right, Step, Behind, Clause, QuantBind, Key, BuildName, Attribute, Part, ValuePart}
use Rattle.core_scope.specs.Syn.{Values, resolved}
use Rattle.core_scope.specs.Syn as s
use Rattle.core_scope.specs.Erasure.{syns_of, maybe_of, keys_of, to_left, with_signs}
use Rattle.core_scope.specs.Erasure as e
use Rattle.core_scope.specs.Leaves.{ResolvedTree, sequence_of}
use Rattle.core_scope.specs.Literals.{integer_of}
use Rattle.core_scope.specs.Names.{Signature, function_of, place_in}
use Rattle.core_scope.specs.Resolving.{callee_or_first, kind_or_integer, resolved_type}
use Rattle.core_scope.specs.TypeNames.{atom_kind}
use Rattle.core_scope.specs.Open.{Open, entered_variable}
use Rattle.core_scope.specs.Standing.{Lasting, TextStands, TypeStands}
use Rattle.core_scope.specs.Telling.{entered_quants, entered_clauses}
use Rattle.core_scope.specs.Matching.{NodeStands, StepHead, PlainStep, PlainAttribute, SynClause, SynKey, node_in, maybe_in, right_in, head_in, step_in, behind_in, quant_in, clause_in, key_in, name_in, values_in, attribute_in, parts_in, node_for, maybe_for, right_for, head_for, step_for, behind_for, quants_for, clauses_for, key_for, name_for, values_for, attribute_for, parts_for}
use Rattle.core_scope.proofs.Growing.{grows_more}
use Rattle.core_scope.proofs.FormedIn.{clauses_syn, quants_syn, step_syn, path_syn, attributes_syn, in_comma, in_flwor, in_quantified, in_if, in_chain, in_signed, in_instance, in_treat, in_castable, in_cast, in_root, in_path, in_integer, in_text, in_var, in_paren, in_dot, in_call, in_build, in_element, in_comment, in_instruction}
use Rattle.core_scope.proofs.FormedFor.{for_comma, for_flwor, for_quantified, for_if, for_chain, for_signed, for_instance, for_treat, for_castable, for_cast, for_root, for_path, for_integer, for_text, for_var, for_paren, for_dot, for_call, for_build, for_element, for_comment, for_instruction}

-- a variable that is entered behind what leaves the others as they were
pub entered_still : (v : ReadVariable) (a b d : Open) → d ≡ entered_variable v b → b ≡ a → d ≡ entered_variable v a
entered_still v a b d p q = p ∙ ap (entered_variable v) q

module _ (fs : List Signature) (w : Open) where
  pub comma_stands : (p q : List Text) (i : ℕ) (a : Tree) (ts : List Tree) (b : ResolvedTree) (rs : List ResolvedTree) →
      NodeStands fs w a p b → Grows p q → Lasting q (λ later. map (node_in later) rs ≡ map (node_for fs w) ts) → NodeStands fs w (n.Comma i a ts) q (n.Comma i b rs)
  comma_stands p q i a ts b rs f g h = λ later k.
      in_comma later i b rs
      ∙ ap (λ x. s.comma i x (syns_of (map (node_in later) rs))) (f later (grows_more p q later g k))
      ∙ ap (λ xs. s.comma i (node_for fs w a) (syns_of xs)) (h later k)
      ∙ sym (for_comma fs w i a ts)

  pub if_stands : (p q r : List Text) (i : ℕ) (a b d : Tree) (x y z : ResolvedTree) →
      NodeStands fs w a p x → Grows p q → NodeStands fs w b q y → Grows q r → NodeStands fs w d r z → NodeStands fs w (n.If i a b d) r (n.If i x y z)
  if_stands p q r i a b d x y z f g h j m = λ later k.
      in_if later i x y z
      ∙ ap (λ t. s.conditional i t (node_in later y) (node_in later z)) (f later (grows_more p q later g (grows_more q r later j k)))
      ∙ ap (λ t. s.conditional i (node_for fs w a) t (node_in later z)) (h later (grows_more q r later j k))
      ∙ ap (s.conditional i (node_for fs w a) (node_for fs w b)) (m later k)
      ∙ sym (for_if fs w i a b d)

  pub chain_stands : (p q : List Text) (i : ℕ) (a : Tree) (bs : List Right) (x : ResolvedTree) (ys : List (RightOf ResolvedTree)) →
      NodeStands fs w a p x → Grows p q → Lasting q (λ later. map (right_in later) ys ≡ map (right_for fs w) bs) → NodeStands fs w (n.Chain i a bs) q (n.Chain i x ys)
  chain_stands p q i a bs x ys f g h = λ later k.
      in_chain later i x ys
      ∙ ap (λ t. to_left i t (map (right_in later) ys)) (f later (grows_more p q later g k))
      ∙ ap (to_left i (node_for fs w a)) (h later k)
      ∙ sym (for_chain fs w i a bs)

  pub signed_stands : (p : List Text) (i : ℕ) (xs : List Signed) (a : Tree) (x : ResolvedTree) →
      NodeStands fs w a p x → NodeStands fs w (n.Signed i xs a) p (n.Signed i xs x)
  signed_stands p i xs a x f = λ later k. in_signed later i xs x ∙ ap (with_signs xs) (f later k) ∙ sym (for_signed fs w i xs a)

  pub instance_stands : (p q : List Text) (i : ℕ) (a : Tree) (t : ReadType) (x : ResolvedTree) (y : SeqType) →
      NodeStands fs w a p x → Grows p q → TypeStands q y (resolved_type t) → NodeStands fs w (n.Instance i a t) q (n.Instance i x y)
  instance_stands p q i a t x y f g h = λ later k.
      in_instance later i x y
      ∙ ap (λ z. s.instance i z (sequence_of later y)) (f later (grows_more p q later g k))
      ∙ ap (s.instance i (node_for fs w a)) (h later k)
      ∙ sym (for_instance fs w i a t)

  pub treat_stands : (p q : List Text) (i : ℕ) (a : Tree) (t : ReadType) (x : ResolvedTree) (y : SeqType) →
      NodeStands fs w a p x → Grows p q → TypeStands q y (resolved_type t) → NodeStands fs w (n.Treat i a t) q (n.Treat i x y)
  treat_stands p q i a t x y f g h = λ later k.
      in_treat later i x y
      ∙ ap (λ z. s.treat i z (sequence_of later y)) (f later (grows_more p q later g k))
      ∙ ap (s.treat i (node_for fs w a)) (h later k)
      ∙ sym (for_treat fs w i a t)

  pub castable_stands : (p : List Text) (i : ℕ) (a : Tree) (t : Named) (m : Bool) (x : ResolvedTree) (y : AtomKind) →
      NodeStands fs w a p x → y ≡ kind_or_integer (atom_kind t.text) → NodeStands fs w (n.Castable i a t m) p (n.Castable i x y m)
  castable_stands p i a t m x y f h = λ later k.
      in_castable later i x y m
      ∙ ap (λ z. s.castable i z y m) (f later k)
      ∙ ap (λ z. s.castable i (node_for fs w a) z m) h
      ∙ sym (for_castable fs w i a t m)

  pub cast_stands : (p : List Text) (i : ℕ) (a : Tree) (t : Named) (m : Bool) (x : ResolvedTree) (y : AtomKind) →
      NodeStands fs w a p x → y ≡ kind_or_integer (atom_kind t.text) → NodeStands fs w (n.Cast i a t m) p (n.Cast i x y m)
  cast_stands p i a t m x y f h = λ later k.
      in_cast later i x y m
      ∙ ap (λ z. s.cast i z y m) (f later k)
      ∙ ap (λ z. s.cast i (node_for fs w a) z m) h
      ∙ sym (for_cast fs w i a t m)

  pub path_stands : (p q : List Text) (z : Start) (a : Step) (bs : List Behind) (x : StepOf TextId ResolvedTree) (ys : List (BehindOf TextId ResolvedTree)) →
      Lasting p (λ later. step_in later x ≡ step_for fs w a) → Grows p q → Lasting q (λ later. map (behind_in later) ys ≡ map (behind_for fs w) bs) → NodeStands fs w (n.Path z a bs) q (n.Path z x ys)
  path_stands p q z a bs x ys f g h = λ later k.
      in_path later z x ys
      ∙ ap (λ t. path_syn (step_syn (e.start_of z) t) (map (behind_in later) ys)) (f later (grows_more p q later g k))
      ∙ ap (path_syn (step_syn (e.start_of z) (step_for fs w a))) (h later k)
      ∙ sym (for_path fs w z a bs)

  pub paren_stands : (p : List Text) (i : ℕ) (a : Option Tree) (x : Option ResolvedTree) →
      Lasting p (λ later. maybe_in later x ≡ maybe_for fs w a) → NodeStands fs w (n.Paren i a) p (n.Paren i x)
  paren_stands p i a x f = λ later k. in_paren later i x ∙ ap (λ m. s.paren i (maybe_of m)) (f later k) ∙ sym (for_paren fs w i a)

  pub call_stands : (p : List Text) (i : ℕ) (f : Named) (ts : List Tree) (g : Callee) (rs : List ResolvedTree) →
      g ≡ callee_or_first (function_of fs f.text (length ts)) → Lasting p (λ later. map (node_in later) rs ≡ map (node_for fs w) ts) → NodeStands fs w (n.Call i f ts) p (n.Call i g rs)
  call_stands p i f ts g rs j h = λ later k.
      in_call later i g rs
      ∙ ap (λ x. s.call i x (syns_of (map (node_in later) rs))) j
      ∙ ap (λ xs. s.call i (callee_or_first (function_of fs f.text (length ts))) (syns_of xs)) (h later k)
      ∙ sym (for_call fs w i f ts)

  pub build_stands : (p q : List Text) (i : ℕ) (b : BuildKind) (a : BuildName) (c : Option Tree) (x : BuildNameOf TextId ResolvedTree) (y : Option ResolvedTree) →
      Lasting p (λ later. name_in later x ≡ name_for fs w a) → Grows p q → Lasting q (λ later. maybe_in later y ≡ maybe_for fs w c) → NodeStands fs w (n.Build i b a c) q (n.Build i b x y)
  build_stands p q i b a c x y f g h = λ later k.
      in_build later i b x y
      ∙ ap (λ t. s.build i b t (maybe_of (maybe_in later y))) (f later (grows_more p q later g k))
      ∙ ap (λ m. s.build i b (name_for fs w a) (maybe_of m)) (h later k)
      ∙ sym (for_build fs w i b a c)

  pub element_stands : (p q r : List Text) (i : ℕ) (a : Named) (as' : List Attribute) (ps : List Part) (x : Name TextId) (bs : List (AttributeOf TextId TextId ResolvedTree)) (qs : List (PartOf TextRun ResolvedTree)) →
      TextStands p x.text a.text → Grows p q → Lasting q (λ later. map (attribute_in later) bs ≡ map (attribute_for fs w) as') → Grows q r → Lasting r (λ later. parts_in later qs ≡ parts_for fs w ps) → NodeStands fs w (n.Element i a as' ps) r (n.Element i x bs qs)
  element_stands p q r i a as' ps x bs qs f g h j m = λ later k.
      in_element later i x bs qs
      ∙ ap (λ t. s.element i t (attributes_syn (map (attribute_in later) bs)) (parts_in later qs)) (f later (grows_more p q later g (grows_more q r later j k)))
      ∙ ap (λ t. s.element i a.text (attributes_syn t) (parts_in later qs)) (h later (grows_more q r later j k))
      ∙ ap (s.element i a.text (attributes_syn (map (attribute_for fs w) as'))) (m later k)
      ∙ sym (for_element fs w i a as' ps)

  pub flwor_stands : (p q r z : List Text) (i : ℕ) (cs : List Clause) (c : Option Tree) (ks : List Key) (a : Tree) (ds : List (ClauseOf ℕ SeqType ResolvedTree)) (d : Option ResolvedTree) (js : List (KeyOf ResolvedTree)) (x : ResolvedTree) (v : Open) →
      v ≡ entered_clauses cs w → Lasting p (λ later. map (clause_in later) ds ≡ clauses_for fs w cs) → Grows p q → Lasting q (λ later. maybe_in later d ≡ maybe_for fs v c) → Grows q r → Lasting r (λ later. map (key_in later) js ≡ map (key_for fs v) ks) → Grows r z → NodeStands fs v a z x → NodeStands fs w (n.Flwor i cs c ks a) z (n.Flwor i ds d js x)
  flwor_stands p q r z i cs c ks a ds d js x v same f g h g' m g'' t = λ later k.
      let at_r : Grows r later = grows_more r z later g'' k in
      let at_q : Grows q later = grows_more q r later g' at_r in
      in_flwor later i ds d js x
      ∙ ap (λ bs. s.flwor i (clauses_syn bs) (maybe_of (maybe_in later d)) (keys_of (map (key_in later) js)) (node_in later x)) (f later (grows_more p q later g at_q))
      ∙ ap (λ y. s.flwor i (clauses_syn (clauses_for fs w cs)) (maybe_of y) (keys_of (map (key_in later) js)) (node_in later x)) (h later at_q)
      ∙ ap (λ y. s.flwor i (clauses_syn (clauses_for fs w cs)) (maybe_of (maybe_for fs v c)) (keys_of y) (node_in later x)) (m later at_r)
      ∙ ap (s.flwor i (clauses_syn (clauses_for fs w cs)) (maybe_of (maybe_for fs v c)) (keys_of (map (key_for fs v) ks))) (t later k)
      ∙ ap (λ u. s.flwor i (clauses_syn (clauses_for fs w cs)) (maybe_of (maybe_for fs u c)) (keys_of (map (key_for fs u) ks)) (node_for fs u a)) same
      ∙ sym (for_flwor fs w i cs c ks a)

  pub quantified_stands : (p q : List Text) (i : ℕ) (z : Quantifier) (bs : List QuantBind) (a : Tree) (ds : List (QuantOf ℕ SeqType ResolvedTree)) (x : ResolvedTree) (v : Open) →
      v ≡ entered_quants bs w → Lasting p (λ later. map (quant_in later) ds ≡ quants_for fs w bs) → Grows p q → NodeStands fs v a q x → NodeStands fs w (n.Quantified i z bs a) q (n.Quantified i z ds x)
  quantified_stands p q i z bs a ds x v same f g h = λ later k.
      in_quantified later i z ds x
      ∙ ap (λ y. s.quantified i z (quants_syn y) (node_in later x)) (f later (grows_more p q later g k))
      ∙ ap (s.quantified i z (quants_syn (quants_for fs w bs))) (h later k ∙ ap (λ u. node_for fs u a) same)
      ∙ sym (for_quantified fs w i z bs a)

  pub var_stands : (p : List Text) (i : ℕ) (x : Named) (o : ℕ) →
      o ≡ place_in (w.scope x.text) → NodeStands fs w (n.Var i x) p (n.Var i o)
  var_stands p i x o h = λ later k. in_var later i o ∙ ap (s.var i) h ∙ sym (for_var fs w i x)

  pub root_stands : (p : List Text) (i : ℕ) →
      NodeStands fs w (n.Root i) p (n.Root i)
  root_stands p i = λ later k. in_root later i ∙ sym (for_root fs w i)

  pub dot_stands : (p : List Text) (i : ℕ) →
      NodeStands fs w (n.Dot i) p (n.Dot i)
  dot_stands p i = λ later k. in_dot later i ∙ sym (for_dot fs w i)

  pub integer_stands : (p : List Text) (i : ℕ) (ds : Bytes) →
      NodeStands fs w (n.Integer i ds) p (n.Integer i (integer_of ds))
  integer_stands p i ds = λ later k. in_integer later i (integer_of ds) ∙ sym (for_integer fs w i ds)

  pub text_stands : (p : List Text) (i : ℕ) (x : Bytes) (y : TextId) →
      TextStands p y x → NodeStands fs w (n.Text i x) p (n.Text i y)
  text_stands p i x y f = λ later k. in_text later i y ∙ ap (s.text i) (f later k) ∙ sym (for_text fs w i x)

  pub comment_stands : (p : List Text) (i : ℕ) (x : Bytes) (y : TextId) →
      TextStands p y x → NodeStands fs w (n.Comment i x) p (n.Comment i y)
  comment_stands p i x y f = λ later k. in_comment later i y ∙ ap (s.comment i) (f later k) ∙ sym (for_comment fs w i x)

  pub instruction_stands : (p q : List Text) (i : ℕ) (a : Named) (b : Bytes) (x : Name TextId) (y : TextId) →
      TextStands p x.text a.text → Grows p q → TextStands q y b → NodeStands fs w (n.Instruction i a b) q (n.Instruction i x y)
  instruction_stands p q i a b x y f g h = λ later k.
      in_instruction later i x y
      ∙ ap (λ t. s.instruction i t (text_in later y)) (f later (grows_more p q later g k))
      ∙ ap (s.instruction i a.text) (h later k)
      ∙ sym (for_instruction fs w i a b)
