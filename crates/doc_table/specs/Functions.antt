-- What an operator or a function gives of the values of its arguments (XQuery 1.0, section 3; Functions and Operators).
-- Each argument is judged by itself first; of several codes the one of the earliest check is given (own rule).
use Rattle.std.specs.Prelude.{Bool, true, false, not, ◌&&◌, ◌||◌, List, [], ◌∷◌, ◌++◌, length, reverse, map, pos}
use Rattle.xq_base.specs.declared.code.Code.TheVariants as c
use Rattle.xq_base.specs.declared.fun.Fun.{Fun}
use Rattle.xq_base.specs.declared.fun.Fun.TheVariants as f
use Rattle.xq_base.specs.declared.fun.AtomKind.TheVariants as k
use Rattle.xq_base.specs.declared.fun.ItemKind.{ItemKind}
use Rattle.xq_base.specs.declared.fun.CompOp.TheVariants as o
use Rattle.xq_base.specs.Answers.{Answer, Value, Fault, with_value, both_of}
use Rattle.xq_base.specs.Texts.{Text, joined, blank}
use Rattle.xq_base.specs.Words.{starts_with, ends_with, contains, text_before, text_after, space_normalized, char_count}
use Rattle.xq_base.specs.Atoms.{Atom, text_of, IntAtom}
use Rattle.xq_base.specs.Arithmetic.{arithmetic, sum_of, difference_of, product_of, quotient_of, remainder_of, negation, range_of}
use Rattle.xq_base.specs.Comparisons.{value_comparison, general_comparison, at_most_one, truth}
use Rattle.xq_base.specs.Aggregates.{sum_or, minimum, maximum, distinct, index_of}
use Rattle.xq_base.specs.TextRules.{text_list, on_text, on_texts, concatenation, string_join, substring_from, substring_of, translated, compare_texts, absolute_of}
use Rattle.doc_table.specs.Identity.{node_eq, node_less}
use Rattle.doc_table.specs.Items.{TextItem, BoolItem}
use Rattle.doc_table.specs.Nodes.{item_kind_eq}
use Rattle.doc_table.specs.Values.{Items, items_of, data_of, text_of_item, boolean_value, kind_of_item, cast_items}
use Rattle.doc_table.specs.Sequences.{whole, bool_items, is_empty, part_from, part_of, inserted, removed, zero_or_one, one_or_more, exactly_one}
use Rattle.doc_table.specs.NodeRules.{Docs, node_comparison, node_set, those_in, those_not_in, path_result, root_answer, name_answer, local_name_answer, doc_answer}
use Rattle.doc_table.specs.Content.{element_name, target_name}

-- a call has as many arguments as its function takes; another number is no call of a query
abbrev pub misfit : Answer Items
misfit = Fault c.XPTY0004

abbrev pub none : Items → List Items → Answer Items
none v [] = Value v
none v _ = misfit

abbrev pub one : (Items → Answer Items) → List Items → Answer Items
one g (v ∷ []) = g v
one g _ = misfit

abbrev pub two : (Items → Items → Answer Items) → List Items → Answer Items
two g (v ∷ u ∷ []) = g v u
two g _ = misfit

abbrev pub three : (Items → Items → Items → Answer Items) → List Items → Answer Items
three g (v ∷ u ∷ w ∷ []) = g v u w
three g _ = misfit

abbrev pub two_or_three : (Items → Items → Answer Items) → (Items → Items → Items → Answer Items) → List Items → Answer Items
two_or_three g h (v ∷ u ∷ []) = g v u
two_or_three g h (v ∷ u ∷ w ∷ []) = h v u w
two_or_three g h _ = misfit

-- rules on atomic values, on atomised arguments
abbrev pub one_atomic : (List Atom → Answer (List Atom)) → List Items → Answer Items
one_atomic g vs = one (λ v. with_value items_of (g (data_of v))) vs

abbrev pub two_atomic : (List Atom → List Atom → Answer (List Atom)) → List Items → Answer Items
two_atomic g vs = two (λ v u. with_value items_of (g (data_of v) (data_of u))) vs

abbrev pub three_atomic : (List Atom → List Atom → List Atom → Answer (List Atom)) → List Items → Answer Items
three_atomic g vs = three (λ v u w. with_value items_of (g (data_of v) (data_of u) (data_of w))) vs

-- fn:string of at most one item
abbrev pub string_answer : Items → Answer Items
string_answer [] = Value (TextItem [] ∷ [])
string_answer (v ∷ []) = Value (TextItem (text_of_item v) ∷ [])
string_answer (v ∷ u ∷ vs) = Fault c.XPTY0004

-- fn:sum with a value for the empty sequence, which is judged too
abbrev pub sum_with : List Atom → List Atom → Answer (List Atom)
sum_with as' bs = with_value (λ p. p.1) (both_of (at_most_one bs) (sum_or bs as'))

abbrev pub sum_answer : List Items → Answer Items
sum_answer (v ∷ []) = with_value items_of (sum_or (IntAtom (pos 0) ∷ []) (data_of v))
sum_answer (v ∷ u ∷ []) = with_value items_of (sum_with (data_of v) (data_of u))
sum_answer _ = misfit

-- two booleans; the operands of `or` and `and` are made so
abbrev pub on_booleans : (Bool → Bool → Bool) → List Items → Answer Items
on_booleans g ((BoolItem a ∷ []) ∷ (BoolItem b ∷ []) ∷ []) = Value (bool_items (g a b))
on_booleans g _ = Value []

-- one text in the place of the items: their texts joined by one blank (XQuery 1.0, section 3.7.1.1)
abbrev pub content_text : List Atom → Text
content_text as' = joined blank (map text_of as')

abbrev pub kind_test : ItemKind → Items → Answer Items
kind_test kind (v ∷ []) = Value (bool_items (item_kind_eq kind (kind_of_item v)))
kind_test kind _ = misfit

abbrev pub concat_answer : List Items → Answer Items
concat_answer vs = with_value items_of (concatenation (map data_of vs))

abbrev pub fun_answer : Docs → Fun → List Items → Answer Items
fun_answer docs f.Or vs = on_booleans (λ a b. a || b) vs
fun_answer docs f.And vs = on_booleans (λ a b. a && b) vs
fun_answer docs f.Eq vs = two_atomic (value_comparison o.Eq) vs
fun_answer docs f.Ne vs = two_atomic (value_comparison o.Ne) vs
fun_answer docs f.Lt vs = two_atomic (value_comparison o.Lt) vs
fun_answer docs f.Le vs = two_atomic (value_comparison o.Le) vs
fun_answer docs f.Gt vs = two_atomic (value_comparison o.Gt) vs
fun_answer docs f.Ge vs = two_atomic (value_comparison o.Ge) vs
fun_answer docs f.GeneralEq vs = two_atomic (general_comparison o.Eq) vs
fun_answer docs f.GeneralNe vs = two_atomic (general_comparison o.Ne) vs
fun_answer docs f.GeneralLt vs = two_atomic (general_comparison o.Lt) vs
fun_answer docs f.GeneralLe vs = two_atomic (general_comparison o.Le) vs
fun_answer docs f.GeneralGt vs = two_atomic (general_comparison o.Gt) vs
fun_answer docs f.GeneralGe vs = two_atomic (general_comparison o.Ge) vs
fun_answer docs f.Is vs = two (node_comparison node_eq) vs
fun_answer docs f.Before vs = two (node_comparison node_less) vs
fun_answer docs f.After vs = two (node_comparison (λ m n. node_less n m)) vs
fun_answer docs f.To vs = two_atomic range_of vs
fun_answer docs f.Add vs = two_atomic (arithmetic sum_of) vs
fun_answer docs f.Subtract vs = two_atomic (arithmetic difference_of) vs
fun_answer docs f.Multiply vs = two_atomic (arithmetic product_of) vs
fun_answer docs f.IntegerDivide vs = two_atomic (arithmetic quotient_of) vs
fun_answer docs f.Modulo vs = two_atomic (arithmetic remainder_of) vs
fun_answer docs f.Negate vs = one_atomic negation vs
fun_answer docs f.Union vs = two (node_set (λ ms ns. ms ++ ns)) vs
fun_answer docs f.Intersect vs = two (node_set those_in) vs
fun_answer docs f.Except vs = two (node_set those_not_in) vs
fun_answer docs f.Doc vs = one (doc_answer docs) vs
fun_answer docs f.Root vs = one root_answer vs
fun_answer docs f.Count vs = one (λ v. Value (whole (length v))) vs
fun_answer docs f.Empty vs = one (λ v. Value (bool_items (is_empty v))) vs
fun_answer docs f.Exists vs = one (λ v. Value (bool_items (not (is_empty v)))) vs
fun_answer docs f.Boolean vs = one (λ v. with_value bool_items (boolean_value v)) vs
fun_answer docs f.Not vs = one (λ v. with_value (λ b. bool_items (not b)) (boolean_value v)) vs
fun_answer docs f.True vs = none (bool_items true) vs
fun_answer docs f.False vs = none (bool_items false) vs
fun_answer docs f.StringOf vs = one string_answer vs
fun_answer docs f.Data vs = one_atomic Value vs
fun_answer docs f.Name vs = one name_answer vs
fun_answer docs f.LocalName vs = one local_name_answer vs
fun_answer docs f.StringLength vs = one_atomic (on_text (λ t. IntAtom (pos (char_count t)) ∷ [])) vs
fun_answer docs f.NormalizeSpace vs = one_atomic (on_text (λ t. text_list (space_normalized t))) vs
fun_answer docs f.Concat vs = concat_answer vs
fun_answer docs f.StringJoin vs = two_atomic string_join vs
fun_answer docs f.Contains vs = two_atomic (on_texts (λ t u. truth (contains t u))) vs
fun_answer docs f.StartsWith vs = two_atomic (on_texts (λ t u. truth (starts_with t u))) vs
fun_answer docs f.EndsWith vs = two_atomic (on_texts (λ t u. truth (ends_with t u))) vs
fun_answer docs f.SubstringBefore vs = two_atomic (on_texts (λ t u. text_list (text_before t u))) vs
fun_answer docs f.SubstringAfter vs = two_atomic (on_texts (λ t u. text_list (text_after t u))) vs
fun_answer docs f.Substring vs = two_or_three (λ t p. with_value items_of (substring_from (data_of t) (data_of p))) (λ t p n. with_value items_of (substring_of (data_of t) (data_of p) (data_of n))) vs
fun_answer docs f.Translate vs = three_atomic translated vs
fun_answer docs f.Compare vs = two_atomic compare_texts vs
fun_answer docs f.Abs vs = one_atomic absolute_of vs
fun_answer docs f.Sum vs = sum_answer vs
fun_answer docs f.Min vs = one_atomic minimum vs
fun_answer docs f.Max vs = one_atomic maximum vs
fun_answer docs f.DistinctValues vs = one_atomic (λ as'. Value (distinct as')) vs
fun_answer docs f.IndexOf vs = two_atomic index_of vs
fun_answer docs f.Reverse vs = one (λ v. Value (reverse v)) vs
fun_answer docs f.Subsequence vs = two_or_three part_from part_of vs
fun_answer docs f.InsertBefore vs = three inserted vs
fun_answer docs f.Remove vs = two removed vs
fun_answer docs f.ZeroOrOne vs = one zero_or_one vs
fun_answer docs f.OneOrMore vs = one one_or_more vs
fun_answer docs f.ExactlyOne vs = one exactly_one vs
-- normalisation leaves no call of these three
fun_answer docs f.Position vs = Fault c.XPDY0002
fun_answer docs f.Last vs = Fault c.XPDY0002
fun_answer docs f.Error vs = Fault c.FOER0000
fun_answer docs f.XsInteger vs = one (cast_items k.Integer true) vs
fun_answer docs f.XsString vs = one (cast_items k.Text true) vs
fun_answer docs f.XsBoolean vs = one (cast_items k.Boolean true) vs
fun_answer docs f.XsUntypedAtomic vs = one (cast_items k.Untyped true) vs
fun_answer docs f.PathOrder vs = one path_result vs
fun_answer docs f.ContentText vs = one_atomic (λ as'. Value (text_list (content_text as'))) vs
fun_answer docs f.Atomize vs = one_atomic Value vs
fun_answer docs f.QName vs = one (λ v. with_value (λ t. TextItem t ∷ []) (element_name v)) vs
fun_answer docs f.PiTarget vs = one (λ v. with_value (λ t. TextItem t ∷ []) (target_name v)) vs
fun_answer docs (f.IsKind kind) vs = one (kind_test kind) vs
fun_answer docs (f.CastTo kind) vs = one (cast_items kind true) vs
-- no query and no plan calls an external function yet
fun_answer docs (f.Extern term arity) vs = Fault c.FOER0000
