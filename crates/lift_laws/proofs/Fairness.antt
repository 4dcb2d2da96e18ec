-- A function that looks at the atomised items of its arguments alone, and gives atoms, is the same over cells.
use Rattle.std.proofs.Common.{◌≡◌, true, List, [], ◌∷◌, map, pos, refl, sym, ap, ◌∙◌, subst}
use Rattle.xq_base.specs.declared.code.Code.TheVariants as c
use Rattle.xq_base.specs.declared.fun.Fun.{Fun}
use Rattle.xq_base.specs.declared.fun.Fun.TheVariants as f
use Rattle.xq_base.specs.declared.fun.AtomKind.{AtomKind}
use Rattle.xq_base.specs.declared.fun.AtomKind.TheVariants as k
use Rattle.xq_base.specs.declared.fun.CompOp.TheVariants as o
use Rattle.xq_base.specs.Answers.{Answer, Value, Fault, with_value}
use Rattle.xq_base.specs.Texts.{Text}
use Rattle.xq_base.specs.Words.{starts_with, ends_with, contains, text_before, text_after, space_normalized, char_count}
use Rattle.xq_base.specs.Atoms.{Atom, IntAtom, TextAtom, UntypedAtom, BoolAtom, cast_atom}
use Rattle.xq_base.specs.Arithmetic.{arithmetic, sum_of, difference_of, product_of, quotient_of, remainder_of, negation, range_of}
use Rattle.xq_base.specs.Comparisons.{value_comparison, general_comparison, truth}
use Rattle.xq_base.specs.Aggregates.{sum_or, minimum, maximum, distinct, index_of}
use Rattle.xq_base.specs.TextRules.{text_list, on_text, on_texts, concatenation, string_join, substring_from, substring_of, translated, compare_texts, absolute_of}
use Rattle.doc_table.specs.Items.{Item, IntItem, TextItem, UntypedItem, BoolItem, NodeItem}
use Rattle.doc_table.specs.Values.{Items, atomized, data_of, item_of_atom, items_of, cast_of, cast_items}
use Rattle.doc_table.specs.NodeRules.{Docs}
use Rattle.doc_table.specs.Functions.{one, one_atomic, two_atomic, three_atomic, sum_with, content_text, fun_answer}
use Rattle.core_meaning.specs.Expr.{Site, Apply}
use Rattle.core_meaning.specs.Meaning.{value_in}
use Rattle.lift_laws.specs.Sums.{AllOf}
use Rattle.lift_laws.specs.Bulk.{list_of}
use Rattle.lift_laws.specs.Worlds.{World, cell_of, Known}
use Rattle.lift_laws.specs.Lifting.{answer_cells, Fair}

-- a cell's atomic value is its item's
atom_cell : (W : World) (v : Item Text) → atomized (cell_of W v) ≡ atomized v
atom_cell W (IntItem z) = refl
atom_cell W (TextItem t) = refl
atom_cell W (UntypedItem t) = refl
atom_cell W (BoolItem b) = refl
atom_cell W (NodeItem n) = refl

pub data_cells : (W : World) (vs : Items) → data_of (map (cell_of W) vs) ≡ data_of vs
data_cells W [] = refl
data_cells W (v ∷ vs) = ap (λ x. x ∷ data_of (map (cell_of W) vs)) (atom_cell W v) ∙ ap (λ xs. atomized v ∷ xs) (data_cells W vs)

all_data_cells : (W : World) (vss : List Items) → map data_of (map (map (cell_of W)) vss) ≡ map data_of vss
all_data_cells W [] = refl
all_data_cells W (vs ∷ vss) = ap (λ x. x ∷ map data_of (map (map (cell_of W)) vss)) (data_cells W vs) ∙ ap (λ xs. data_of vs ∷ xs) (all_data_cells W vss)

-- atoms are their own cells
pub one_atom : (W : World) (a : Atom) → cell_of W (item_of_atom a) ≡ item_of_atom a
one_atom W (IntAtom z) = refl
one_atom W (TextAtom t) = refl
one_atom W (UntypedAtom t) = refl
one_atom W (BoolAtom b) = refl

pub all_atoms : (W : World) (as' : List Atom) → map (cell_of W) (items_of as') ≡ items_of as'
all_atoms W [] = refl
all_atoms W (a ∷ as') = ap (λ x. x ∷ map (cell_of W) (items_of as')) (one_atom W a) ∙ ap (λ xs. item_of_atom a ∷ xs) (all_atoms W as')

pub atom_answer : (W : World) (x : Answer (List Atom)) → answer_cells (cell_of W) (with_value items_of x) ≡ with_value items_of x
atom_answer W (Value as') = ap Value (all_atoms W as')
atom_answer W (Fault d) = refl

module _ (docs : Docs) where
  pub known_atom : (W : World) (a : Atom) → Known docs W (item_of_atom a)
  known_atom W (IntAtom z) = tt
  known_atom W (TextAtom t) = tt
  known_atom W (UntypedAtom t) = tt
  known_atom W (BoolAtom b) = tt

  pub known_atoms : (W : World) (as' : List Atom) → AllOf (Known docs W) (items_of as')
  known_atoms W [] = tt
  known_atoms W (a ∷ as') = (known_atom W a, known_atoms W as')

  pub known_answer : (W : World) (x : Answer (List Atom)) → AllOf (Known docs W) (list_of (value_in (with_value items_of x)))
  known_answer W (Value as') = known_atoms W as'
  known_answer W (Fault d) = tt

  pub atomic_fair : (site : Site) (g : Fun) (h : List (List Atom) → Answer (List Atom)) → ((vs : List Items) → fun_answer docs g vs ≡ with_value items_of (h (map data_of vs))) → Fair docs site (Apply g)
  atomic_fair site g h is W es its fw nw i a vs e known =
      let x = h (map data_of vs) in (
        is (map (map (cell_of W)) vs) ∙ ap (λ ds. with_value items_of (h ds)) (all_data_cells W vs) ∙ sym (atom_answer W x) ∙ ap (answer_cells (cell_of W)) (sym (is vs)),
        subst_known W (sym (is vs)) (known_answer W x),
      )
    where
      subst_known : (W : World) {y z : Answer Items} → y ≡ z → AllOf (Known docs W) (list_of (value_in y)) → AllOf (Known docs W) (list_of (value_in z))
      subst_known W e k = subst (λ q. AllOf (Known docs W) (list_of (value_in q))) e k

-- the rule of each number of arguments, on their atoms
abbrev pub of_one : (List Atom → Answer (List Atom)) → List (List Atom) → Answer (List Atom)
of_one g (a ∷ []) = g a
of_one g _ = Fault c.XPTY0004

abbrev pub of_two : (List Atom → List Atom → Answer (List Atom)) → List (List Atom) → Answer (List Atom)
of_two g (a ∷ b ∷ []) = g a b
of_two g _ = Fault c.XPTY0004

abbrev pub of_three : (List Atom → List Atom → List Atom → Answer (List Atom)) → List (List Atom) → Answer (List Atom)
of_three g (a ∷ b ∷ d ∷ []) = g a b d
of_three g _ = Fault c.XPTY0004

one_is : (g : List Atom → Answer (List Atom)) (vs : List Items) → one_atomic g vs ≡ with_value items_of (of_one g (map data_of vs))
one_is g [] = refl
one_is g (v ∷ []) = refl
one_is g (v ∷ u ∷ vs) = refl

two_is : (g : List Atom → List Atom → Answer (List Atom)) (vs : List Items) → two_atomic g vs ≡ with_value items_of (of_two g (map data_of vs))
two_is g [] = refl
two_is g (v ∷ []) = refl
two_is g (v ∷ u ∷ []) = refl
two_is g (v ∷ u ∷ w ∷ vs) = refl

three_is : (g : List Atom → List Atom → List Atom → Answer (List Atom)) (vs : List Items) → three_atomic g vs ≡ with_value items_of (of_three g (map data_of vs))
three_is g [] = refl
three_is g (v ∷ []) = refl
three_is g (v ∷ u ∷ []) = refl
three_is g (v ∷ u ∷ w ∷ []) = refl
three_is g (v ∷ u ∷ w ∷ x ∷ vs) = refl

-- a cast of an argument
abbrev pub cast_list : AtomKind → List Atom → Answer (List Atom)
cast_list kind [] = Value []
cast_list kind (a ∷ []) = with_value (λ b. b ∷ []) (cast_atom kind a)
cast_list kind (a ∷ b ∷ as') = Fault c.XPTY0004

cast_one : (kind : AtomKind) (as' : List Atom) → cast_of kind true as' ≡ with_value items_of (cast_list kind as')
cast_one kind [] = refl
cast_one kind (a ∷ []) = at (cast_atom kind a)
  where
    at : (x : Answer Atom) → with_value (λ b. item_of_atom b ∷ []) x ≡ with_value items_of (with_value (λ b. b ∷ []) x)
    at (Value b) = refl
    at (Fault d) = refl
cast_one kind (a ∷ b ∷ as') = refl

cast_is : (kind : AtomKind) (vs : List Items) → one (cast_items kind true) vs ≡ with_value items_of (of_one (cast_list kind) (map data_of vs))
cast_is kind [] = refl
cast_is kind (v ∷ []) = cast_one kind (data_of v)
cast_is kind (v ∷ u ∷ vs) = refl

abbrev pub substring_list : List (List Atom) → Answer (List Atom)
substring_list (a ∷ b ∷ []) = substring_from a b
substring_list (a ∷ b ∷ d ∷ []) = substring_of a b d
substring_list _ = Fault c.XPTY0004

substring_is : (docs : Docs) (vs : List Items) → fun_answer docs f.Substring vs ≡ with_value items_of (substring_list (map data_of vs))
substring_is docs [] = refl
substring_is docs (v ∷ []) = refl
substring_is docs (v ∷ u ∷ []) = refl
substring_is docs (v ∷ u ∷ w ∷ []) = refl
substring_is docs (v ∷ u ∷ w ∷ x ∷ vs) = refl

abbrev pub sum_list : List (List Atom) → Answer (List Atom)
sum_list (a ∷ []) = sum_or (IntAtom (pos 0) ∷ []) a
sum_list (a ∷ b ∷ []) = sum_with a b
sum_list _ = Fault c.XPTY0004

sum_is : (docs : Docs) (vs : List Items) → fun_answer docs f.Sum vs ≡ with_value items_of (sum_list (map data_of vs))
sum_is docs [] = refl
sum_is docs (v ∷ []) = refl
sum_is docs (v ∷ u ∷ []) = refl
sum_is docs (v ∷ u ∷ w ∷ vs) = refl

-- function by function
module _ (docs : Docs) (site : Site) where
  one_fair : (g : Fun) (h : List Atom → Answer (List Atom)) → ((vs : List Items) → fun_answer docs g vs ≡ one_atomic h vs) → Fair docs site (Apply g)
  one_fair g h e = atomic_fair docs site g (of_one h) (λ vs. e vs ∙ one_is h vs)

  two_fair : (g : Fun) (h : List Atom → List Atom → Answer (List Atom)) → ((vs : List Items) → fun_answer docs g vs ≡ two_atomic h vs) → Fair docs site (Apply g)
  two_fair g h e = atomic_fair docs site g (of_two h) (λ vs. e vs ∙ two_is h vs)

  cast_fair : (g : Fun) (kind : AtomKind) → ((vs : List Items) → fun_answer docs g vs ≡ one (cast_items kind true) vs) → Fair docs site (Apply g)
  cast_fair g kind e = atomic_fair docs site g (of_one (cast_list kind)) (λ vs. e vs ∙ cast_is kind vs)

  pub eq_fair : Fair docs site (Apply f.Eq)
  eq_fair = two_fair f.Eq (value_comparison o.Eq) (λ vs. refl)

  pub ne_fair : Fair docs site (Apply f.Ne)
  ne_fair = two_fair f.Ne (value_comparison o.Ne) (λ vs. refl)

  pub lt_fair : Fair docs site (Apply f.Lt)
  lt_fair = two_fair f.Lt (value_comparison o.Lt) (λ vs. refl)

  pub le_fair : Fair docs site (Apply f.Le)
  le_fair = two_fair f.Le (value_comparison o.Le) (λ vs. refl)

  pub gt_fair : Fair docs site (Apply f.Gt)
  gt_fair = two_fair f.Gt (value_comparison o.Gt) (λ vs. refl)

  pub ge_fair : Fair docs site (Apply f.Ge)
  ge_fair = two_fair f.Ge (value_comparison o.Ge) (λ vs. refl)

  pub general_eq_fair : Fair docs site (Apply f.GeneralEq)
  general_eq_fair = two_fair f.GeneralEq (general_comparison o.Eq) (λ vs. refl)

  pub general_ne_fair : Fair docs site (Apply f.GeneralNe)
  general_ne_fair = two_fair f.GeneralNe (general_comparison o.Ne) (λ vs. refl)

  pub general_lt_fair : Fair docs site (Apply f.GeneralLt)
  general_lt_fair = two_fair f.GeneralLt (general_comparison o.Lt) (λ vs. refl)

  pub general_le_fair : Fair docs site (Apply f.GeneralLe)
  general_le_fair = two_fair f.GeneralLe (general_comparison o.Le) (λ vs. refl)

  pub general_gt_fair : Fair docs site (Apply f.GeneralGt)
  general_gt_fair = two_fair f.GeneralGt (general_comparison o.Gt) (λ vs. refl)

  pub general_ge_fair : Fair docs site (Apply f.GeneralGe)
  general_ge_fair = two_fair f.GeneralGe (general_comparison o.Ge) (λ vs. refl)

  pub to_fair : Fair docs site (Apply f.To)
  to_fair = two_fair f.To range_of (λ vs. refl)

  pub add_fair : Fair docs site (Apply f.Add)
  add_fair = two_fair f.Add (arithmetic sum_of) (λ vs. refl)

  pub subtract_fair : Fair docs site (Apply f.Subtract)
  subtract_fair = two_fair f.Subtract (arithmetic difference_of) (λ vs. refl)

  pub multiply_fair : Fair docs site (Apply f.Multiply)
  multiply_fair = two_fair f.Multiply (arithmetic product_of) (λ vs. refl)

  pub divide_fair : Fair docs site (Apply f.IntegerDivide)
  divide_fair = two_fair f.IntegerDivide (arithmetic quotient_of) (λ vs. refl)

  pub modulo_fair : Fair docs site (Apply f.Modulo)
  modulo_fair = two_fair f.Modulo (arithmetic remainder_of) (λ vs. refl)

  pub negate_fair : Fair docs site (Apply f.Negate)
  negate_fair = one_fair f.Negate negation (λ vs. refl)

  pub abs_fair : Fair docs site (Apply f.Abs)
  abs_fair = one_fair f.Abs absolute_of (λ vs. refl)

  pub data_fair : Fair docs site (Apply f.Data)
  data_fair = one_fair f.Data Value (λ vs. refl)

  pub atomize_fair : Fair docs site (Apply f.Atomize)
  atomize_fair = one_fair f.Atomize Value (λ vs. refl)

  pub content_text_fair : Fair docs site (Apply f.ContentText)
  content_text_fair = one_fair f.ContentText (λ as'. Value (text_list (content_text as'))) (λ vs. refl)

  pub string_length_fair : Fair docs site (Apply f.StringLength)
  string_length_fair = one_fair f.StringLength (on_text (λ t. IntAtom (pos (char_count t)) ∷ [])) (λ vs. refl)

  pub normalize_space_fair : Fair docs site (Apply f.NormalizeSpace)
  normalize_space_fair = one_fair f.NormalizeSpace (on_text (λ t. text_list (space_normalized t))) (λ vs. refl)

  pub contains_fair : Fair docs site (Apply f.Contains)
  contains_fair = two_fair f.Contains (on_texts (λ t u. truth (contains t u))) (λ vs. refl)

  pub starts_with_fair : Fair docs site (Apply f.StartsWith)
  starts_with_fair = two_fair f.StartsWith (on_texts (λ t u. truth (starts_with t u))) (λ vs. refl)

  pub ends_with_fair : Fair docs site (Apply f.EndsWith)
  ends_with_fair = two_fair f.EndsWith (on_texts (λ t u. truth (ends_with t u))) (λ vs. refl)

  pub substring_before_fair : Fair docs site (Apply f.SubstringBefore)
  substring_before_fair = two_fair f.SubstringBefore (on_texts (λ t u. text_list (text_before t u))) (λ vs. refl)

  pub substring_after_fair : Fair docs site (Apply f.SubstringAfter)
  substring_after_fair = two_fair f.SubstringAfter (on_texts (λ t u. text_list (text_after t u))) (λ vs. refl)

  pub compare_fair : Fair docs site (Apply f.Compare)
  compare_fair = two_fair f.Compare compare_texts (λ vs. refl)

  pub string_join_fair : Fair docs site (Apply f.StringJoin)
  string_join_fair = two_fair f.StringJoin string_join (λ vs. refl)

  pub index_of_fair : Fair docs site (Apply f.IndexOf)
  index_of_fair = two_fair f.IndexOf index_of (λ vs. refl)

  pub min_fair : Fair docs site (Apply f.Min)
  min_fair = one_fair f.Min minimum (λ vs. refl)

  pub max_fair : Fair docs site (Apply f.Max)
  max_fair = one_fair f.Max maximum (λ vs. refl)

  pub distinct_values_fair : Fair docs site (Apply f.DistinctValues)
  distinct_values_fair = one_fair f.DistinctValues (λ as'. Value (distinct as')) (λ vs. refl)

  pub concat_fair : Fair docs site (Apply f.Concat)
  concat_fair = atomic_fair docs site f.Concat concatenation (λ vs. refl)

  pub translate_fair : Fair docs site (Apply f.Translate)
  translate_fair = atomic_fair docs site f.Translate (of_three translated) (three_is translated)

  pub substring_fair : Fair docs site (Apply f.Substring)
  substring_fair = atomic_fair docs site f.Substring substring_list (substring_is docs)

  pub sum_fair : Fair docs site (Apply f.Sum)
  sum_fair = atomic_fair docs site f.Sum sum_list (sum_is docs)

  pub integer_fair : Fair docs site (Apply f.XsInteger)
  integer_fair = cast_fair f.XsInteger k.Integer (λ vs. refl)

  pub string_fair : Fair docs site (Apply f.XsString)
  string_fair = cast_fair f.XsString k.Text (λ vs. refl)

  pub boolean_fair : Fair docs site (Apply f.XsBoolean)
  boolean_fair = cast_fair f.XsBoolean k.Boolean (λ vs. refl)

  pub untyped_fair : Fair docs site (Apply f.XsUntypedAtomic)
  untyped_fair = cast_fair f.XsUntypedAtomic k.Untyped (λ vs. refl)
