-- Every operator and function gives a value of its type: a line for each.
use Rattle.std.proofs.Common.{◌≡◌, Bool, true, false, not, ◌&&◌, ◌||◌, List, [], ◌∷◌, ◌++◌, length, map, pos, refl, sym, ap, subst, ◌∙◌, Option, Some, None, arith}
use Rattle.std.proofs.lemmas.Bool.{false≢true}
use Rattle.xq_base.specs.declared.fun.Fun.{Fun}
use Rattle.xq_base.specs.declared.fun.Fun.TheVariants as f
use Rattle.xq_base.specs.declared.fun.AtomKind.TheVariants as a
use Rattle.xq_base.specs.declared.fun.CompOp.TheVariants as o
use Rattle.xq_base.specs.declared.fun.ItemKind.TheVariants as k
use Rattle.xq_base.specs.Answers.{Value, with_value, both_of}
use Rattle.xq_base.specs.Texts.{Text, joined}
use Rattle.xq_base.specs.Words.{starts_with, ends_with, contains, text_before, text_after, space_normalized, char_count, text_part, text_mapped}
use Rattle.xq_base.specs.Atoms.{IntAtom}
use Rattle.xq_base.specs.Arithmetic.{sum_of, difference_of, product_of, quotient_of, remainder_of, checked}
use Rattle.std.proofs.Common.{neg_ℤ}
use Rattle.xq_base.specs.Comparisons.{at_most_one, truth}
use Rattle.xq_base.specs.Aggregates.{all_of, is_less_atom}
use Rattle.xq_base.specs.TextRules.{text_list, text_argument, one_text, string_of, texts_joined, concatenation, substring_from, substring_of, absolute}
use Rattle.doc_table.specs.Tree.{Label, OfDocument, OfElement, OfAttribute, OfText, OfComment, OfInstruction}
use Rattle.doc_table.specs.Nodes.{label_of_node}
use Rattle.xq_types.specs.Kinds.{has_kind, only}
use Rattle.doc_table.specs.Identity.{node_eq, node_less}
use Rattle.doc_table.specs.Items.{IntItem, TextItem, UntypedItem, BoolItem, NodeItem}
use Rattle.doc_table.specs.Values.{Items, items_of, data_of, kind_at, boolean_value}
use Rattle.doc_table.specs.Sequences.{whole, bool_items, is_empty}
use Rattle.doc_table.specs.NodeRules.{Docs, maybe_node, those_in, those_not_in}
use Rattle.doc_table.specs.Functions.{string_answer, content_text, on_booleans, fun_answer}
use Rattle.core_meaning.specs.Lawful.{takes}
use Rattle.xq_types.specs.Calls.{Types, whole_type, text_type, bool_type, fun_type}
use Rattle.xq_types.proofs.Good.{Fits}
use Rattle.xq_types.proofs.Forms.{Gives, whole_fits}
use Rattle.xq_types.proofs.Combine.{AllFit, gives_with, always, any_none, any_one, any_three, any_two_or_three, once_int, once_text, once_bool}
use Rattle.xq_types.proofs.Scalars.{arithmetic_typed, number_typed, comparison_typed, nodes_typed, compare_typed, on_one, on_two, general_typed}
use Rattle.xq_types.proofs.Lists.{data_typed, distinct_typed, extreme_typed, reverse_typed, zero_or_one_typed, one_or_more_typed, exactly_one_typed, removed_typed, part_typed, inserted_typed, range_typed, index_typed, sum_typed}
use Rattle.xq_types.proofs.NodeSets.{DocsPlaced, set_typed, union_keeps, intersect_keeps, except_keeps, path_typed, root_typed, doc_typed}

string_typed : (v : Items) → Gives (Fits text_type) (string_answer v)
string_typed [] = once_text []
string_typed (i ∷ []) = once_text _
string_typed (i ∷ j ∷ v) = tt

-- `or` and `and` of two booleans
node_no_bool : (l : Option (Label Text)) → has_kind (only (k.Atom a.Boolean)) (kind_at l) ≡ true → ⊥
node_no_bool None h = false≢true h
node_no_bool (Some OfDocument) h = false≢true h
node_no_bool (Some (OfElement n as')) h = false≢true h
node_no_bool (Some (OfAttribute n v)) h = false≢true h
node_no_bool (Some (OfText v)) h = false≢true h
node_no_bool (Some (OfComment v)) h = false≢true h
node_no_bool (Some (OfInstruction n v)) h = false≢true h

one_boolean : (v : Items) → Fits bool_type v → (b : Bool) × (v ≡ BoolItem b ∷ [])
one_boolean [] f = absurd (omega (arith, f.least))
one_boolean (BoolItem b ∷ []) f = (b, refl)
one_boolean (IntItem z ∷ []) f = absurd (false≢true f.each.0.0)
one_boolean (TextItem t ∷ []) f = absurd (false≢true f.each.0.0)
one_boolean (UntypedItem t ∷ []) f = absurd (false≢true f.each.0.0)
one_boolean (NodeItem n ∷ []) f = absurd (node_no_bool (label_of_node n) f.each.0.0)
one_boolean (i ∷ j ∷ v) f = absurd (omega (arith, f.most (omega arith)))

booleans_typed : (g : Bool → Bool → Bool) (ts : Types) (vs : List Items) → ts ≡ bool_type ∷ bool_type ∷ [] → AllFit ts vs → Gives (Fits bool_type) (on_booleans g vs)
booleans_typed g ts vs e h = at vs (subst (λ us. AllFit us vs) e h) where
  made_of : (v w : Items) → (b : Bool) × (v ≡ BoolItem b ∷ []) → (b : Bool) × (w ≡ BoolItem b ∷ []) → Gives (Fits bool_type) (on_booleans g (v ∷ w ∷ []))
  made_of v w p q = subst (λ us. Gives (Fits bool_type) (on_booleans g us)) (sym (ap (λ x. x ∷ w ∷ []) p.1 ∙ ap (λ x. (BoolItem p.0 ∷ []) ∷ x ∷ []) q.1)) (once_bool (g p.0 q.0))

  at : (us : List Items) → AllFit (bool_type ∷ bool_type ∷ []) us → Gives (Fits bool_type) (on_booleans g us)
  at [] i = absurd i
  at (v ∷ []) i = absurd i.1
  at (v ∷ w ∷ []) i = made_of v w (one_boolean v i.0) (one_boolean w i.1.0)
  at (v ∷ w ∷ x ∷ us) i = absurd i.1.1

-- the arguments of `or` and `and` are one boolean each
abbrev pub Ready : Fun → Types → Type 0
Ready f.Or ts = ts ≡ bool_type ∷ bool_type ∷ []
Ready f.And ts = ts ≡ bool_type ∷ bool_type ∷ []
Ready _ ts = Unit {0}

pub fun_typed : (docs : Docs) → DocsPlaced docs → (g : Fun) (ts : Types) (vs : List Items) → takes g (length vs) ≡ true → Ready g ts → AllFit ts vs → Gives (Fits (fun_type g ts)) (fun_answer docs g vs)
fun_typed docs d f.Or ts vs n r h = booleans_typed (λ x y. x || y) ts vs r h
fun_typed docs d f.And ts vs n r h = booleans_typed (λ x y. x && y) ts vs r h
fun_typed docs d f.Eq ts vs n r h = comparison_typed o.Eq ts vs h
fun_typed docs d f.Ne ts vs n r h = comparison_typed o.Ne ts vs h
fun_typed docs d f.Lt ts vs n r h = comparison_typed o.Lt ts vs h
fun_typed docs d f.Le ts vs n r h = comparison_typed o.Le ts vs h
fun_typed docs d f.Gt ts vs n r h = comparison_typed o.Gt ts vs h
fun_typed docs d f.Ge ts vs n r h = comparison_typed o.Ge ts vs h
fun_typed docs d f.GeneralEq ts vs n r h = general_typed o.Eq vs
fun_typed docs d f.GeneralNe ts vs n r h = general_typed o.Ne vs
fun_typed docs d f.GeneralLt ts vs n r h = general_typed o.Lt vs
fun_typed docs d f.GeneralLe ts vs n r h = general_typed o.Le vs
fun_typed docs d f.GeneralGt ts vs n r h = general_typed o.Gt vs
fun_typed docs d f.GeneralGe ts vs n r h = general_typed o.Ge vs
fun_typed docs d f.Is ts vs n r h = nodes_typed node_eq ts vs h
fun_typed docs d f.Before ts vs n r h = nodes_typed node_less ts vs h
fun_typed docs d f.After ts vs n r h = nodes_typed (λ x y. node_less y x) ts vs h
fun_typed docs d f.To ts vs n r h = range_typed vs
fun_typed docs d f.Add ts vs n r h = arithmetic_typed sum_of ts vs h
fun_typed docs d f.Subtract ts vs n r h = arithmetic_typed difference_of ts vs h
fun_typed docs d f.Multiply ts vs n r h = arithmetic_typed product_of ts vs h
fun_typed docs d f.IntegerDivide ts vs n r h = arithmetic_typed quotient_of ts vs h
fun_typed docs d f.Modulo ts vs n r h = arithmetic_typed remainder_of ts vs h
fun_typed docs d f.Negate ts vs n r h = number_typed (λ z. checked (neg_ℤ z)) ts vs h
fun_typed docs d f.Union ts vs n r h = set_typed (λ xs ys. xs ++ ys) union_keeps ts vs h
fun_typed docs d f.Intersect ts vs n r h = set_typed those_in intersect_keeps ts vs h
fun_typed docs d f.Except ts vs n r h = set_typed those_not_in except_keeps ts vs h
fun_typed docs d f.Doc ts vs n r h = doc_typed docs d ts vs h
fun_typed docs d f.Root ts vs n r h = root_typed ts vs h
fun_typed docs d f.Count ts vs n r h = any_one (Fits whole_type) (λ v. Value (whole (length v))) vs (λ v. whole_fits (length v))
fun_typed docs d f.Empty ts vs n r h = any_one (Fits bool_type) (λ v. Value (bool_items (is_empty v))) vs (λ v. once_bool (is_empty v))
fun_typed docs d f.Exists ts vs n r h = any_one (Fits bool_type) (λ v. Value (bool_items (not (is_empty v)))) vs (λ v. once_bool (not (is_empty v)))
fun_typed docs d f.Boolean ts vs n r h = any_one (Fits bool_type) (λ v. with_value bool_items (boolean_value v)) vs (λ v. always (Fits bool_type) bool_items (boolean_value v) once_bool)
fun_typed docs d f.Not ts vs n r h = any_one (Fits bool_type) (λ v. with_value (λ b. bool_items (not b)) (boolean_value v)) vs (λ v. always (Fits bool_type) (λ b. bool_items (not b)) (boolean_value v) (λ b. once_bool (not b)))
fun_typed docs d f.True ts vs n r h = any_none (Fits bool_type) (bool_items true) vs (once_bool true)
fun_typed docs d f.False ts vs n r h = any_none (Fits bool_type) (bool_items false) vs (once_bool false)
fun_typed docs d f.StringOf ts vs n r h = any_one (Fits text_type) string_answer vs string_typed
fun_typed docs d f.Data ts vs n r h = data_typed ts vs h
fun_typed docs d f.Name ts vs n r h = any_one (Fits text_type) _ vs (λ v. always (Fits text_type) _ (maybe_node v) (λ m. once_text _))
fun_typed docs d f.LocalName ts vs n r h = any_one (Fits text_type) _ vs (λ v. always (Fits text_type) _ (maybe_node v) (λ m. once_text _))
fun_typed docs d f.StringLength ts vs n r h = on_one whole_type text_argument (λ t. IntAtom (pos (char_count t)) ∷ []) vs (λ t. once_int _)
fun_typed docs d f.NormalizeSpace ts vs n r h = on_one text_type text_argument (λ t. text_list (space_normalized t)) vs (λ t. once_text _)
fun_typed docs d f.Concat ts vs n r h = gives_with (Fits text_type) items_of (concatenation (map data_of vs)) (always (λ bs. Fits text_type (items_of bs)) (λ os. text_list (texts_joined os)) (all_of at_most_one (map data_of vs)) (λ os. once_text _))
fun_typed docs d f.StringJoin ts vs n r h = on_two text_type (λ us ws. both_of (all_of string_of us) (one_text ws)) (λ p. text_list (joined p.1 p.0)) vs (λ p. once_text _)
fun_typed docs d f.Contains ts vs n r h = on_two bool_type (λ us ws. both_of (text_argument us) (text_argument ws)) (λ p. truth (contains p.0 p.1)) vs (λ p. once_bool _)
fun_typed docs d f.StartsWith ts vs n r h = on_two bool_type (λ us ws. both_of (text_argument us) (text_argument ws)) (λ p. truth (starts_with p.0 p.1)) vs (λ p. once_bool _)
fun_typed docs d f.EndsWith ts vs n r h = on_two bool_type (λ us ws. both_of (text_argument us) (text_argument ws)) (λ p. truth (ends_with p.0 p.1)) vs (λ p. once_bool _)
fun_typed docs d f.SubstringBefore ts vs n r h = on_two text_type (λ us ws. both_of (text_argument us) (text_argument ws)) (λ p. text_list (text_before p.0 p.1)) vs (λ p. once_text _)
fun_typed docs d f.SubstringAfter ts vs n r h = on_two text_type (λ us ws. both_of (text_argument us) (text_argument ws)) (λ p. text_list (text_after p.0 p.1)) vs (λ p. once_text _)
fun_typed docs d f.Substring ts vs n r h =
    any_two_or_three (Fits text_type) _ _ vs
    (λ v p. gives_with (Fits text_type) items_of (substring_from (data_of v) (data_of p)) (always (λ bs. Fits text_type (items_of bs)) (λ q. text_list (text_part q.0 q.1 None)) _ (λ q. once_text _)))
    (λ v p m. gives_with (Fits text_type) items_of (substring_of (data_of v) (data_of p) (data_of m)) (always (λ bs. Fits text_type (items_of bs)) (λ q. text_list (text_part q.0.0 q.0.1 (Some q.1))) _ (λ q. once_text _)))
fun_typed docs d f.Translate ts vs n r h =
    any_three (Fits text_type) _ vs (λ v p m. gives_with (Fits text_type) items_of _ (always (λ bs. Fits text_type (items_of bs)) (λ q. text_list (text_mapped q.0.0 q.0.1 q.1)) _ (λ q. once_text _)))
fun_typed docs d f.Compare ts vs n r h = compare_typed ts vs h
fun_typed docs d f.Abs ts vs n r h = number_typed (λ z. checked (absolute z)) ts vs h
fun_typed docs d f.Sum ts vs n r h = sum_typed ts vs h
fun_typed docs d f.Min ts vs n r h = extreme_typed is_less_atom ts vs h
fun_typed docs d f.Max ts vs n r h = extreme_typed (λ x y. is_less_atom y x) ts vs h
fun_typed docs d f.DistinctValues ts vs n r h = distinct_typed ts vs h
fun_typed docs d f.IndexOf ts vs n r h = index_typed vs
fun_typed docs d f.Reverse ts vs n r h = reverse_typed ts vs h
fun_typed docs d f.Subsequence ts vs n r h = part_typed ts vs h
fun_typed docs d f.InsertBefore ts vs n r h = inserted_typed ts vs h
fun_typed docs d f.Remove ts vs n r h = removed_typed ts vs h
fun_typed docs d f.ZeroOrOne ts vs n r h = zero_or_one_typed ts vs h
fun_typed docs d f.OneOrMore ts vs n r h = one_or_more_typed ts vs h
fun_typed docs d f.ExactlyOne ts vs n r h = exactly_one_typed ts vs h
fun_typed docs d f.Position ts vs n r h = tt
fun_typed docs d f.Last ts vs n r h = tt
fun_typed docs d f.Error ts vs n r h = tt
fun_typed docs d f.XsInteger ts vs n r h = absurd (false≢true n)
fun_typed docs d f.XsString ts vs n r h = absurd (false≢true n)
fun_typed docs d f.XsBoolean ts vs n r h = absurd (false≢true n)
fun_typed docs d f.XsUntypedAtomic ts vs n r h = absurd (false≢true n)
fun_typed docs d f.PathOrder ts vs n r h = path_typed ts vs h
fun_typed docs d f.ContentText ts vs n r h = any_one (Fits text_type) (λ v. Value (items_of (text_list (content_text (data_of v))))) vs (λ v. once_text _)
fun_typed docs d f.Atomize ts vs n r h = absurd (false≢true n)
fun_typed docs d f.QName ts vs n r h = absurd (false≢true n)
fun_typed docs d f.PiTarget ts vs n r h = absurd (false≢true n)
fun_typed docs d (f.IsKind kind) ts vs n r h = absurd (false≢true n)
fun_typed docs d (f.CastTo kind) ts vs n r h = absurd (false≢true n)
fun_typed docs d (f.Extern term arity) ts vs n r h = absurd (false≢true n)
