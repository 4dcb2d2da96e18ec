-- Calls of `sum`, `min` and `max`, from the rows of their operators: what is given of each iteration's items in their order.
use Rattle.std.proofs.Common.{◌≡◌, ℕ, ◌+◌, ◌≤◌, Bool, true, false, cond, not, List, [], ◌∷◌, ◌++◌, length, map, refl, sym, ap, ◌∙◌, inl, inr, arith, Option, Some, None, nat_lt, ℤ, pos}
use Rattle.std.proofs.Math.Bool.{and-true}
use Rattle.std.specs.List.{filter, flat_map}
use Rattle.std.proofs.Math.Nat.{max-le}
use Rattle.xq_base.specs.declared.code.Code.{Code}
use Rattle.xq_base.specs.declared.code.Code.TheVariants as c
use Rattle.xq_base.specs.Answers.{Answer, Value, Fault as Refused, check_rank, then_rule, with_value, both_of}
use Rattle.xq_base.specs.Texts.{integer_in, fits_int}
use Rattle.xq_base.specs.Atoms.{Atom, IntAtom, TextAtom, UntypedAtom, BoolAtom}
use Rattle.xq_base.specs.Arithmetic.{or_no_cast, checked, integer_list}
use Rattle.xq_base.specs.Aggregates.{all_of, addend, sum_or, as_integer, have_kind_of, best_from, best_of, minimum, maximum}
use Rattle.xq_base.specs.Aggregates.{total as sum_of}
use Rattle.doc_table.specs.Values.{Items, items_of, data_of}
use Rattle.doc_table.specs.NodeRules.{Docs}
use Rattle.doc_table.specs.Functions.{fun_answer}
use Rattle.plan_dag.specs.declared.op.Agg.{Agg}
use Rattle.plan_dag.specs.declared.op.OpId.{OpId}
use Rattle.plan_dag.specs.declared.check.Check.{Check}
use Rattle.plan_dag.specs.Cells.{Outcome, Gives, Fails, Silent, given, code_in}
use Rattle.plan_dag.specs.ItemRules.{Cell, cell_eq, outcome_of}
use Rattle.plan_dag.specs.Rows.{is_code, group_rows, rows_with, group_value, aggregate_fails_rows}
use Rattle.plan_dag.specs.Meaning.{cell}
use Rattle.core_meaning.specs.Expr.{Site, Apply}
use Rattle.core_meaning.specs.Meaning.{value_in}
use Rattle.core_meaning.specs.Lawful.{is_dynamic}
use Rattle.lift_laws.specs.Sums.{total, bit, AllOf, Ascends, Same}
use Rattle.lift_laws.specs.Iterations.{Row, Iter, num, item_rows, value_rows, loop_rows}
use Rattle.lift_laws.specs.Bulk.{list_of}
use Rattle.lift_laws.specs.States.{State, at, Makes, column, three, single}
use Rattle.lift_laws.specs.Shapes.{bare, pair, columns, pick, any_rows}
use Rattle.lift_laws.specs.Stages.{Stages}
use Rattle.lift_laws.specs.Pairs.{PairCode, OfBoth}
use Rattle.lift_laws.specs.Aggregates.{sorted_rows, grouped_by, given_by, AggRule, Totals, Minima, Maxima, agg_of, agg_fun, agg_codes, none_rows, grouped_rows, agg_given_rows, agg_value_rows, agg_marks, agg_most}
use Rattle.lift_laws.specs.Lifting.{CallLifts}
use Rattle.lift_laws.proofs.Multi.{same-of, same-trans, same-map, same-length, length-total, total-ext, total-map, total-flat, total-keep}
use Rattle.lift_laws.proofs.Picks.{all_each, all_mono, flat-all, map-flat, total-all}
use Rattle.lift_laws.proofs.Values.{all_two}
use Rattle.lift_laws.proofs.Sizes.{size_cells, size_loop, total_most}
use Rattle.lift_laws.proofs.Loops.{rows_key}
use Rattle.lift_laws.proofs.Simple.{is_there, any_count, literal_stands, empty_stands, either_stands, left_out}
use Rattle.lift_laws.proofs.Marks.{Marks, marks_same, some, unmarked_stands, fault_in}
use Rattle.lift_laws.proofs.Operands.{marks_any}
use Rattle.lift_laws.proofs.Cleared.{AllMark}
use Rattle.lift_laws.proofs.Firsts.{item, key, named, named_there, one_first}
use Rattle.lift_laws.proofs.FunctionCases.{some_items}
use Rattle.lift_laws.proofs.TruthCase.{zero_if, bit_back}
use Rattle.lift_laws.proofs.Stagings.{Ranked, first_coded, first_mark, marked_rows, stages_one}
use Rattle.lift_laws.proofs.PairCodes.{AmongBoth, both_none, first_by, alone}
use Rattle.lift_laws.proofs.PairCase.{OneAtMost, code_fault, shown}
use Rattle.lift_laws.proofs.SortedRows.{own_blocks, sorted_like}

-- what the function gives of all items
abbrev pub answer : AggRule → Items → Answer Items
answer q vs = fun_answer [] (agg_fun q) (vs ∷ [])

pub whole_is : (q : AggRule) (vs : Items) → bare.whole (agg_of q) vs ≡ outcome_of (answer q vs)
whole_is Totals vs = refl
whole_is Minima vs = refl
whole_is Maxima vs = refl

items_back : (n k : ℕ) (vs : Items) → map item (item_rows n k vs) ≡ vs
items_back n k [] = refl
items_back n k (v ∷ vs) = ap (λ l. v ∷ l) (items_back n (k + 1) vs)

module _ (agg : Agg) (h : Iter → List Cell) (its : List Iter) (asc : Ascends (λ i. i.number) 0 its) where
  abbrev all : List Row
  all = value_rows h its

  abbrev group_of : Cell → Items
  group_of k = map item (rows_with bare key k (value_rows h its))

  groups : AllOf (λ i. group_of (num i.number) ≡ h i) its
  groups = all_mono _ _ (λ i (e : filter (λ r. cell_eq (num i.number) (key r)) (value_rows h its) ≡ item_rows i.number 1 (h i)). let z : group_of (num i.number) ≡ h i = ap (map item) e ∙ items_back i.number 1 (h i) in z) its
      (own_blocks (λ (i : Iter). i.number) key (λ i. item_rows i.number 1 (h i)) (λ i. rows_key i.number 1 (h i)) 0 its asc)

  there : AllOf (λ i. is_there (num i.number) (any_rows (value_rows h its)) ≡ some (h i)) its
  there = (marks_any h its (value_rows h its) asc (same-of refl)).each

  abbrev moved : Row → Row
  moved r = pick (columns (0 ∷ 1 ∷ [])) (pair 4 0 ∷ pair 5 1 ∷ []) r

  abbrev right : Row → Cell
  right r = cell bare (columns (4 ∷ 5 ∷ [])) (column 4) r

  -- the values of the groups beside the loop
  abbrev grouped_at : Iter → List Row
  grouped_at i = cond (some (h i)) (map (λ v. num i.number ∷ num i.number ∷ v ∷ []) (given (bare.whole agg (h i)))) []

  pulled : (w : Row → ℕ) (n : ℕ) (k : Cell) (vs : List Cell) → total (λ r. cond (cell_eq (num n) (right (moved r))) (w ((num n ∷ []) ++ moved r)) 0) (map (λ v. k ∷ v ∷ []) vs) ≡ cond (cell_eq (num n) k) (total (λ v. w (num n ∷ k ∷ v ∷ [])) vs) 0
  pulled w n k [] = sym (zero_if (cell_eq (num n) k))
  pulled w n k (v ∷ vs) =
      ap (λ t. cond (cell_eq (num n) k) (w (num n ∷ k ∷ v ∷ [])) 0 + t) (pulled w n k vs)
      ∙ elim (cell_eq (num n) k) as (λ b. cond b (w (num n ∷ k ∷ v ∷ [])) 0 + cond b (total (λ v. w (num n ∷ k ∷ v ∷ [])) vs) 0 ≡ cond b (w (num n ∷ k ∷ v ∷ []) + total (λ v. w (num n ∷ k ∷ v ∷ [])) vs) 0) [ true ↦ refl | false ↦ refl ]

  weigh_map : (w : Row → ℕ) (n : ℕ) (b : Bool) (vs : List Cell) → cond b (total (λ v. w (num n ∷ num n ∷ v ∷ [])) vs) 0 ≡ total w (cond b (map (λ v. num n ∷ num n ∷ v ∷ []) vs) [])
  weigh_map w n true vs = sym (total-map w (λ v. num n ∷ num n ∷ v ∷ []) vs)
  weigh_map w n false vs = refl

  grouped_stand : (l : List Row) → Same l (loop_rows its) → Same (grouped_by agg l (value_rows h its)) (flat_map grouped_at its)
  grouped_stand l sl = record {
    at = λ w.
        let made = λ (r : Row). map (λ v. key r ∷ v ∷ []) (given (group_value bare agg key item (value_rows h its) r)) in
        let table = flat_map made (group_rows bare key (value_rows h its)) in
        let each = λ (r : Row). map (λ z. r ++ z) (filter (λ z. cell_eq (cell bare single (column 0) r) (right z)) (map moved table)) in
        total-flat w each l
        ∙ sl.at (λ r. total w (each r))
        ∙ total-map (λ r. total w (each r)) (λ (i : Iter). num i.number ∷ []) its
        ∙ total-all _ _ its (all_two _ _ _ (λ i (e : group_of (num i.number) ≡ h i) (m : is_there (num i.number) (any_rows (value_rows h its)) ≡ some (h i)).
        let hv = λ (k : Cell). total (λ v. w (num i.number ∷ k ∷ v ∷ [])) (given (bare.whole agg (group_of k))) in
        total-map w (λ z. (num i.number ∷ []) ++ z) (filter (λ z. cell_eq (num i.number) (right z)) (map moved table))
        ∙ total-keep (λ z. w ((num i.number ∷ []) ++ z)) (λ z. cell_eq (num i.number) (right z)) (map moved table)
        ∙ total-map (λ z. cond (cell_eq (num i.number) (right z)) (w ((num i.number ∷ []) ++ z)) 0) moved table
        ∙ total-flat (λ z. cond (cell_eq (num i.number) (right (moved z))) (w ((num i.number ∷ []) ++ moved z)) 0) made (group_rows bare key (value_rows h its))
        ∙ total-ext _ _ (group_rows bare key (value_rows h its)) (λ r. pulled w i.number (key r) (given (group_value bare agg key item (value_rows h its) r)))
        ∙ one_first i.number hv [] (value_rows h its)
        ∙ ap (λ b. cond b (hv (num i.number)) 0) (and-true (named i.number (value_rows h its)) ∙ named_there i.number (value_rows h its) ∙ m)
        ∙ ap (λ vs. cond (some (h i)) (total (λ v. w (num i.number ∷ num i.number ∷ v ∷ [])) (given (bare.whole agg vs))) 0) e
        ∙ weigh_map w i.number (some (h i)) (given (bare.whole agg (h i)))) its groups there)
        ∙ sym (total-flat w grouped_at its);
  }

  -- the groups that fail with a code
  flip : (a b : Bool) → cond a (bit b) 0 ≡ cond b (bit a) 0
  flip true true = refl
  flip true false = refl
  flip false true = refl
  flip false false = refl

  abbrev fails : Code → Items → Bool
  fails d vs = is_code d (code_in (bare.whole agg vs))

  some_fails : (d : Code) (vs : Items) → nat_lt 0 (cond (some vs) (bit (fails d vs)) 0) ≡ cond (some vs) (fails d vs) false
  some_fails d vs = elim (some vs) as (λ b. nat_lt 0 (cond b (bit (fails d vs)) 0) ≡ cond b (fails d vs) false) [ true ↦ bit_back (fails d vs) | false ↦ refl ]

  marks_groups : (d : Code) → Marks (aggregate_fails_rows bare agg d key item (value_rows h its)) (λ i. cond (some (h i)) (fails d (h i)) false) its
  marks_groups d = record {
    each = all_two _ _ _ (λ i (e : group_of (num i.number) ≡ h i) (m : is_there (num i.number) (any_rows (value_rows h its)) ≡ some (h i)).
        let bad = λ (r : Row). is_code d (code_in (group_value bare agg key item (value_rows h its) r)) in
        let hv = λ (k : Cell). bit (fails d (group_of k)) in
        any_count (λ r. cell_eq (num i.number) (cell bare single (column 0) r)) (map (λ r. key r ∷ []) (filter bad (group_rows bare key (value_rows h its))))
        ∙ ap (nat_lt 0)
        (total-map (λ r. bit (cell_eq (num i.number) (cell bare single (column 0) r))) (λ r. key r ∷ []) (filter bad (group_rows bare key (value_rows h its)))
        ∙ total-keep (λ r. bit (cell_eq (num i.number) (key r))) bad (group_rows bare key (value_rows h its))
        ∙ total-ext _ _ (group_rows bare key (value_rows h its)) (λ r. flip (bad r) (cell_eq (num i.number) (key r)))
        ∙ one_first i.number hv [] (value_rows h its)
        ∙ ap (λ b. cond b (hv (num i.number)) 0) (and-true (named i.number (value_rows h its)) ∙ named_there i.number (value_rows h its) ∙ m)
        ∙ ap (λ vs. cond (some (h i)) (bit (fails d vs)) 0) e)
        ∙ some_fails d (h i)) its groups there;
  }

-- codes and values of sums and extremes
abbrev both_codes : List Code → List PairCode
both_codes ds = map OfBoth ds

all_among : {A B : Type 0} (g : A → Answer B) (es : List PairCode) → ((a : A) → AmongBoth (fault_in (g a)) es) → (as' : List A) → AmongBoth (fault_in (all_of g as')) es
all_among g es k [] = both_none es
all_among {A = A} {B = B} g es k (a ∷ as') = go (g a) (all_of g as') (k a) (all_among g es k as')
  where
    go : (x : Answer B) (y : Answer (List B)) → AmongBoth (fault_in x) es → AmongBoth (fault_in y) es → AmongBoth (fault_in (with_value (λ (p : B × List B). p.0 ∷ p.1) (both_of x y))) es
    go (Value x) (Value y) p q = q
    go (Value x) (Refused e) p q = q
    go (Refused d) (Value y) p q = p
    go (Refused d) (Refused e) p q = elim (nat_lt (check_rank e) (check_rank d)) as (λ b. AmongBoth (Some (cond b e d)) es) [ true ↦ q | false ↦ p ]

then_among : {A B : Type 0} (x : Answer A) (k : A → Answer B) (es : List PairCode) → AmongBoth (fault_in x) es → ((a : A) → AmongBoth (fault_in (k a)) es) → AmongBoth (fault_in (then_rule x k)) es
then_among (Value a) k es p q = q a
then_among (Refused d) k es p q = p

with_among : {A B : Type 0} (x : Answer A) (k : A → B) (es : List PairCode) → AmongBoth (fault_in x) es → AmongBoth (fault_in (with_value k x)) es
with_among (Value a) k es p = p
with_among (Refused d) k es p = p

cast_among : {A : Type 0} (o : Option A) (es : List PairCode) → AmongBoth (fault_in (or_no_cast o)) (OfBoth c.FORG0001 ∷ es)
cast_among None es = inl refl
cast_among (Some a) es = inr (both_none es)

addend_among : (a : Atom) → AmongBoth (fault_in (addend a)) (both_codes (agg_codes Totals))
addend_among (IntAtom z) = inr (inr (inr refl))
addend_among (UntypedAtom t) = cast_among (integer_in t) (OfBoth c.FORG0006 ∷ OfBoth c.FOAR0002 ∷ [])
addend_among (TextAtom t) = inr (inl refl)
addend_among (BoolAtom b) = inr (inl refl)

checked_among : (z : ℤ) → AmongBoth (fault_in (checked z)) (both_codes (agg_codes Totals))
checked_among z = elim (fits_int z) as (λ b. AmongBoth (fault_in (cond b (Value z) (Refused c.FOAR0002))) (both_codes (agg_codes Totals))) [ true ↦ inr (inr (inr refl)) | false ↦ inr (inr (inl refl)) ]

integer_among : (a : Atom) → AmongBoth (fault_in (as_integer a)) (both_codes (agg_codes Minima))
integer_among (IntAtom z) = inr (inr refl)
integer_among (UntypedAtom t) = with_among (or_no_cast (integer_in t)) IntAtom (both_codes (agg_codes Minima)) (cast_among (integer_in t) (OfBoth c.FORG0006 ∷ []))
integer_among (TextAtom t) = inr (inr refl)
integer_among (BoolAtom b) = inr (inr refl)

best_among : (beats : Atom → Atom → Bool) (as' : List Atom) → AmongBoth (fault_in (best_of beats as')) (both_codes (agg_codes Minima))
best_among beats [] = inr (inr refl)
best_among beats (a ∷ as') = elim (have_kind_of a as') as (λ b. AmongBoth (fault_in (cond b (Value (best_from beats a as' ∷ [])) (Refused c.FORG0006))) (both_codes (agg_codes Minima))) [ true ↦ inr (inr refl) | false ↦ inr (inl refl) ]

sum_among : (as' : List Atom) → AmongBoth (fault_in (sum_or (IntAtom (pos 0) ∷ []) as')) (both_codes (agg_codes Totals))
sum_among [] = inr (inr (inr refl))
sum_among (a ∷ as') = with_among (then_rule (all_of addend (a ∷ as')) (λ zs. checked (sum_of zs))) integer_list (both_codes (agg_codes Totals)) (then_among (all_of addend (a ∷ as')) (λ zs. checked (sum_of zs)) (both_codes (agg_codes Totals)) (all_among addend (both_codes (agg_codes Totals)) addend_among (a ∷ as')) (λ zs. checked_among (sum_of zs)))

among : (q : AggRule) (vs : Items) → AmongBoth (fault_in (answer q vs)) (both_codes (agg_codes q))
among Totals vs = with_among (sum_or (IntAtom (pos 0) ∷ []) (data_of vs)) items_of (both_codes (agg_codes Totals)) (sum_among (data_of vs))
among Minima vs = with_among (minimum (data_of vs)) items_of (both_codes (agg_codes Minima)) (then_among (all_of as_integer (data_of vs)) _ (both_codes (agg_codes Minima)) (all_among as_integer (both_codes (agg_codes Minima)) integer_among (data_of vs)) (λ as'. best_among _ as'))
among Maxima vs = with_among (maximum (data_of vs)) items_of (both_codes (agg_codes Maxima)) (then_among (all_of as_integer (data_of vs)) _ (both_codes (agg_codes Maxima)) (all_among as_integer (both_codes (agg_codes Maxima)) integer_among (data_of vs)) (λ as'. best_among _ as'))

number_one : (x : Answer ℤ) → OneAtMost (with_value items_of (with_value integer_list x))
number_one (Value z) = tt
number_one (Refused d) = tt

best_one : (beats : Atom → Atom → Bool) (as' : List Atom) → OneAtMost (with_value items_of (best_of beats as'))
best_one beats [] = tt
best_one beats (a ∷ as') = elim (have_kind_of a as') as (λ b. OneAtMost (with_value items_of (cond b (Value (best_from beats a as' ∷ [])) (Refused c.FORG0006)))) [ true ↦ tt | false ↦ tt ]

then_one : {A : Type 0} (x : Answer A) (k : A → Answer (List Atom)) → ((a : A) → OneAtMost (with_value items_of (k a))) → OneAtMost (with_value items_of (then_rule x k))
then_one (Value a) k h = h a
then_one (Refused d) k h = tt

pub one_most : (q : AggRule) (vs : Items) → OneAtMost (answer q vs)
one_most Totals [] = tt
one_most Totals (v ∷ vs) = number_one (then_rule (all_of addend (data_of (v ∷ vs))) (λ zs. checked (sum_of zs)))
one_most Minima vs = then_one (all_of as_integer (data_of vs)) _ (λ as'. best_one _ as')
one_most Maxima vs = then_one (all_of as_integer (data_of vs)) _ (λ as'. best_one _ as')

-- what there is of none
abbrev none_value : AggRule → Items
none_value Totals = num 0 ∷ []
none_value Minima = []
none_value Maxima = []

none_is : (q : AggRule) → answer q [] ≡ Value (none_value q)
none_is Totals = refl
none_is Minima = refl
none_is Maxima = refl

none_stands : (q : AggRule) (its : List Iter) (l : List Row) → Same l (loop_rows its) → Same (none_rows q l) (value_rows (λ i. none_value q) its)
none_stands Totals its l s = literal_stands (num 0) its l s
none_stands Minima its l s = empty_stands its
none_stands Maxima its l s = empty_stands its

-- the tests of the codes
abbrev pub tests : AggRule → List Code → (Iter → List Cell) → List (Iter → Bool)
tests q [] h = []
tests q (d ∷ ds) h = (λ i. cond (some (h i)) (is_code d (code_in (bare.whole (agg_of q) (h i)))) false) ∷ tests q ds h

test_is : (q : AggRule) (d : Code) (vs : Items) → cond (some vs) (is_code d (code_in (bare.whole (agg_of q) vs))) false ≡ is_code d (fault_in (answer q vs))
test_is q d [] = sym (ap (λ x. is_code d (fault_in x)) (none_is q))
test_is q d (v ∷ vs) =
    ap (λ b. cond b (is_code d (code_in (bare.whole (agg_of q) (v ∷ vs)))) false) (sym (some_items (v ∷ vs)))
    ∙ ap (λ x. is_code d (code_in x)) (whole_is q (v ∷ vs)) ∙ ap (is_code d) (code_fault (answer q (v ∷ vs)))

abbrev coded : AggRule → List Row → List Code → List (Code × List Row)
coded q a ds = map (λ d. (d, aggregate_fails_rows bare (agg_of q) d key item (sorted_rows a))) ds

first_is : (q : AggRule) (ds : List Code) (a : List Row) (h : Iter → List Cell) (i : Iter) → first_coded (map first_mark (coded q a ds)) (tests q ds h) i ≡ first_by None None (fault_in (answer q (h i))) (both_codes ds)
first_is q [] a h i = refl
first_is q (d ∷ ds) a h i =
    ap (λ b. cond b (Some d) (first_coded (map first_mark (coded q a ds)) (tests q ds h) i)) (test_is q d (h i)) ∙ ap (cond (is_code d (fault_in (answer q (h i)))) (Some d)) (first_is q ds a h i)

pub marks_all : (q : AggRule) (ds : List Code) (h : Iter → List Cell) (its : List Iter) (a : List Row) → Ascends (λ i. i.number) 0 its → Same a (value_rows h its) → AllMark (marked_rows (coded q a ds)) (tests q ds h) its
marks_all q [] h its a asc sa = tt
marks_all q (d ∷ ds) h its a asc sa = (
  marks_same (record { at = λ w. (sorted_like h its a asc sa).at (λ rs. total w (aggregate_fails_rows bare (agg_of q) d key item rs)) }) (marks_groups (agg_of q) h its asc d),
  marks_all q ds h its a asc sa,
)

given_one : (x : Outcome Cell) (n : ℕ) → map (λ r. pick (columns (0 ∷ 4 ∷ 5 ∷ 1 ∷ [])) (pair 0 0 ∷ pair 1 1 ∷ pair 2 5 ∷ []) r) (map (λ r. r ++ num 1 ∷ []) (map (λ v. num n ∷ num n ∷ v ∷ []) (given x))) ≡ item_rows n 1 (given x)
given_one (Gives v) n = refl
given_one (Fails d) n = refl
given_one Silent n = refl

-- what is given of the items of a group, nothing where there is none
abbrev pub front_of : Agg → Items → Items
front_of agg vs = cond (some vs) (given (bare.whole agg vs)) []

abbrev pub front_at : AggRule → Items → Items
front_at q vs = front_of (agg_of q) vs

front_rows : (agg : Agg) (n : ℕ) (vs : Items) → map (λ r. pick (columns (0 ∷ 4 ∷ 5 ∷ 1 ∷ [])) (pair 0 0 ∷ pair 1 1 ∷ pair 2 5 ∷ []) r) (map (λ r. r ++ num 1 ∷ []) (cond (some vs) (map (λ v. num n ∷ num n ∷ v ∷ []) (given (bare.whole agg vs))) [])) ≡ item_rows n 1 (front_of agg vs)
front_rows agg n vs = go (some vs)
  where
    go : (b : Bool) → map (λ r. pick (columns (0 ∷ 4 ∷ 5 ∷ 1 ∷ [])) (pair 0 0 ∷ pair 1 1 ∷ pair 2 5 ∷ []) r) (map (λ r. r ++ num 1 ∷ []) (cond b (map (λ v. num n ∷ num n ∷ v ∷ []) (given (bare.whole agg vs))) [])) ≡ item_rows n 1 (cond b (given (bare.whole agg vs)) [])
    go true = given_one (bare.whole agg vs) n
    go false = refl

pub front_none : (agg : Agg) (vs : Items) → some vs ≡ false → front_of agg vs ≡ []
front_none agg vs e = ap (λ b. cond b (given (bare.whole agg vs)) []) e

module _ (agg : Agg) (h : Iter → List Cell) (its : List Iter) (l a : List Row) (asc : Ascends (λ i. i.number) 0 its) (sl : Same l (loop_rows its)) (sa : Same a (value_rows h its)) where
  grouped : Same (grouped_by agg l (sorted_rows a)) (flat_map (grouped_at agg h its asc) its)
  grouped = same-trans (record { at = λ w. (sorted_like h its a asc sa).at (λ rs. total w (grouped_by agg l rs)) }) (grouped_stand agg h its asc l sl)

  pub groups_stand : Same (given_by agg l (sorted_rows a)) (value_rows (λ i. front_of agg (h i)) its)
  groups_stand =
      let out = λ (r : Row). pick (columns (0 ∷ 4 ∷ 5 ∷ 1 ∷ [])) (pair 0 0 ∷ pair 1 1 ∷ pair 2 5 ∷ []) r in
      same-trans (same-map out (same-map (λ r. r ++ num 1 ∷ []) grouped))
      (same-of (ap (map out) (map-flat (λ r. r ++ num 1 ∷ []) (grouped_at agg h its asc) its) ∙ map-flat out (λ i. map (λ r. r ++ num 1 ∷ []) (grouped_at agg h its asc i)) its
      ∙ flat-all _ _ its (all_each _ (λ i. front_rows agg i.number (h i)) its)))

  pub sorted_few : length (sorted_rows a) ≡ length a
  sorted_few = (sorted_like h its a asc sa).at length ∙ sym (same-length sa)

  pub grouped_few : length (grouped_by agg l (sorted_rows a)) ≤ length its
  grouped_few =
      let y = same-length grouped ∙ length-total (flat_map (grouped_at agg h its asc) its) ∙ total-flat (λ r. 1) (grouped_at agg h its asc) its in
      let u = total_most (λ i. total (λ (r : Row). 1) (grouped_at agg h its asc i)) (λ i. 1) its (λ i. group_few i.number (some (h i)) (bare.whole agg (h i))) in
      let z = length-total its in
      omega arith
    where
      group_few : (n : ℕ) (b : Bool) (x : Outcome Cell) → total (λ (r : Row). 1) (cond b (map (λ v. num n ∷ num n ∷ v ∷ []) (given x)) []) ≤ 1
      group_few n true (Gives v) = omega arith
      group_few n true (Fails d) = omega arith
      group_few n true Silent = omega arith
      group_few n false x = omega arith

both_are : (q : AggRule) (vs : Items) → cond (some vs) (front_at q vs) (none_value q) ≡ list_of (value_in (answer q vs))
both_are q [] = ap (λ x. list_of (value_in x)) (sym (none_is q))
both_are q (v ∷ vs) =
    ap (λ b. cond b (cond b (given (bare.whole (agg_of q) (v ∷ vs))) []) (none_value q)) (sym (some_items (v ∷ vs))) ∙ ap given (whole_is q (v ∷ vs)) ∙ shown (answer q (v ∷ vs)) (one_most q (v ∷ vs))

module _ (q : AggRule) (h : Iter → List Cell) (its : List Iter) (l a : List Row) (asc : Ascends (λ i. i.number) 0 its) (sl : Same l (loop_rows its)) (sa : Same a (value_rows h its)) where
  pub given_stands : Same (agg_given_rows q l a) (value_rows (λ i. front_at q (h i)) (filter (λ i. some (h i)) its))
  given_stands = same-trans (groups_stand (agg_of q) h its l a asc sl sa) (same-of (left_out (λ i. some (h i)) (λ i. front_at q (h i)) (λ i e. front_none (agg_of q) (h i) e) its))

  agg_stands : Same (agg_value_rows q l a) (value_rows (λ i. list_of (value_in (answer q (h i)))) its)
  agg_stands =
      let p = λ (i : Iter). some (h i) in
      same-trans (either_stands p (λ i. front_at q (h i)) (λ i. none_value q) its _ _ given_stands (none_stands q (filter (λ i. not (p i)) its) _ (unmarked_stands p its l _ sl (marks_any h its a asc sa))))
      (same-of (flat-all _ _ its (all_each _ (λ i. ap (item_rows i.number 1) (both_are q (h i))) its)))

  agg_few : AllOf (λ (j : List Row). length j ≤ length l + length a) (sorted_rows a ∷ grouped_rows q l (sorted_rows a) ∷ agg_value_rows q l a ∷ [])
  agg_few =
      let x = sorted_few (agg_of q) h its l a asc sl sa in
      let z = same-length sl ∙ size_loop its in
      let t = length-total its in
      let y = grouped_few (agg_of q) h its l a asc sl sa in
      let v = same-length agg_stands ∙ size_cells (λ i. list_of (value_in (answer q (h i)))) its in
      let w = total_most (λ i. length (list_of (value_in (answer q (h i))))) (λ i. 1) its (λ i. answer_few (answer q (h i)) (one_most q (h i))) in
      let one : length (sorted_rows a) ≤ length l + length a = omega arith in
      let two : length (grouped_rows q l (sorted_rows a)) ≤ length l + length a = omega arith in
      let three' : length (agg_value_rows q l a) ≤ length l + length a = omega arith in
      (one, (two, (three', tt)))
    where
      answer_few : (x : Answer Items) → OneAtMost x → length (list_of (value_in x)) ≤ 1
      answer_few (Value []) k = omega arith
      answer_few (Value (v ∷ [])) k = omega arith
      answer_few (Value (v ∷ u ∷ vs)) k = absurd k
      answer_few (Refused d) k = omega arith

answer_is : (docs : Docs) (q : AggRule) (vs : Items) → fun_answer docs (agg_fun q) (vs ∷ []) ≡ answer q vs
answer_is docs Totals vs = refl
answer_is docs Minima vs = refl
answer_is docs Maxima vs = refl

pub ranked : (q : AggRule) (a : List Row) → Ranked (map first_mark (agg_marks q a))
ranked Totals a = ((omega arith, (omega arith, tt)), ((omega arith, tt), (tt, tt)))
ranked Minima a = ((omega arith, tt), (tt, tt))
ranked Maxima a = ((omega arith, tt), (tt, tt))

pub dynamic : (q : AggRule) (a : List Row) → AllOf (λ (m : Code × List Row). is_dynamic m.0 ≡ true) (agg_marks q a)
dynamic Totals a = (refl, (refl, (refl, tt)))
dynamic Minima a = (refl, (refl, tt))
dynamic Maxima a = (refl, (refl, tt))

-- the first code
pub agg_first : (q : AggRule) (a : List Row) (h : Iter → List Cell) (i : Iter) → fault_in (answer q (h i)) ≡ first_coded (map first_mark (agg_marks q a)) (tests q (agg_codes q) h) i
agg_first q a h i = sym (first_is q (agg_codes q) a h i ∙ alone (fault_in (answer q (h i))) (both_codes (agg_codes q)) (among q (h i)))

pub aggregate_call : (docs : Docs) (s s1 s2 : State) (site : Site) (q : AggRule) (looped a t : OpId) (cs : List Check)
    → Makes s s1 t three (agg_value_rows q (at s looped).rows (at s a).rows) (agg_most q (at s looped).rows (at s a).rows)
    → Stages site (agg_most q (at s looped).rows (at s a).rows) s1 s2 (at s looped).rows (agg_marks q (at s a).rows) cs
    → CallLifts docs s s2 site (Apply (agg_fun q)) looped (a ∷ []) t
aggregate_call docs s s1 s2 site q looped a t cs m st =
    let l = (at s looped).rows in
    let b = (at s a).rows in
    stages_one docs s s1 s2 site (Apply (agg_fun q)) looped a t cs (agg_marks q (at s a).rows) (sorted_rows (at s a).rows ∷ grouped_rows q (at s looped).rows (sorted_rows (at s a).rows) ∷ agg_value_rows q (at s looped).rows (at s a).rows ∷ []) (tests q (agg_codes q)) refl (ranked q (at s a).rows) (dynamic q (at s a).rows) _ _ _ m st
    (λ N e w. let z : agg_most q (at s looped).rows (at s a).rows ≤ N = max-le e (max-le w.0 (max-le w.1.0 w.1.1.0)) in (z, z))
    (answer q) (λ h i. answer_is docs q (h i)) (λ h i. agg_first q (at s a).rows h i)
    (λ its h asc sl sa. marks_all q (agg_codes q) h its (at s a).rows asc sa)
    (λ its h asc sl sa. agg_few q h its (at s looped).rows (at s a).rows asc sl sa)
    (λ its h asc sl sa tree rooted calm. agg_stands q h its (at s looped).rows (at s a).rows asc sl sa)
