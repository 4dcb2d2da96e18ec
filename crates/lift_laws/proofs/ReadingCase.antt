-- Operands that are judged each by itself: what they fail with, the iterations that their checks name, and those that are left.
use Rattle.std.proofs.Common.{◌≡◌, Bool, true, false, cond, not, ◌&&◌, ◌||◌, List, [], ◌∷◌, ◌++◌, map, refl, sym, ap, ◌∙◌, arith, Option, Some, None, ℤ, pos, ◌-ℤ◌}
use Rattle.std.proofs.Math.Bool.{and-true}
use Rattle.std.specs.List.{filter, list_any}
use Rattle.std.proofs.lemmas.Int.{ints}
use Rattle.xq_base.specs.declared.code.Code.{Code}
use Rattle.xq_base.specs.declared.code.Code.TheVariants as c
use Rattle.xq_base.specs.declared.fun.Fun.{Fun}
use Rattle.xq_base.specs.declared.fun.Fun.TheVariants as f
use Rattle.xq_base.specs.Answers.{Answer, Value, Fault as Refused, then_rule, with_value, both_of}
use Rattle.xq_base.specs.Texts.{Text, integer_in}
use Rattle.xq_base.specs.Atoms.{Atom, IntAtom, TextAtom, UntypedAtom, BoolAtom}
use Rattle.xq_base.specs.Arithmetic.{or_no_cast, number_of, operand, checked, integer_list, on_numbers, arithmetic, difference_of}
use Rattle.xq_base.specs.TextRules.{string_of, text_argument, one_text, one_number, compare_texts}
use Rattle.doc_table.specs.Items.{TextItem}
use Rattle.doc_table.specs.Values.{Items, items_of, data_of, atomized}
use Rattle.plan_dag.specs.Cells.{code_in}
use Rattle.plan_dag.specs.ItemRules.{Cell, outcome_of}
use Rattle.plan_dag.specs.Rows.{code_eq, is_code}
use Rattle.plan_dag.specs.Meaning.{cells as cells_at}
use Rattle.core_meaning.specs.Meaning.{value_in}
use Rattle.core_meaning.specs.Lawful.{is_dynamic}
use Rattle.lift_laws.specs.Sums.{AllOf, Ascends, Same}
use Rattle.lift_laws.specs.Iterations.{Row, Iter, value_rows, loop_rows}
use Rattle.lift_laws.specs.Bulk.{list_of}
use Rattle.lift_laws.specs.States.{column, three}
use Rattle.lift_laws.specs.Shapes.{bare, less, any_rows}
use Rattle.lift_laws.specs.Pairs.{own_fail_rows}
use Rattle.lift_laws.specs.Readings.{Reading, MaybeNumber, OneNumber, MaybeText, OneText, reader, unfit_tables, uncast_tables, Operand, all_unfit, all_uncast, marked_by, operand_marks, calm_rows}
use Rattle.lift_laws.proofs.Marks.{Marks, some, unmarked_stands, fault_in, code_self}
use Rattle.lift_laws.proofs.Operands.{has_two, marks_any, marks_second, marks_items}
use Rattle.lift_laws.proofs.Cleared.{none_of, AllMark, cleared_stands}
use Rattle.lift_laws.proofs.Staged.{rank_apart}
use Rattle.lift_laws.proofs.Stagings.{Ranked, first_coded, first_mark, marked_rows}
use Rattle.lift_laws.proofs.FunctionCases.{marks_loop}
use Rattle.lift_laws.proofs.PairRows.{own_hit, fill}
use Rattle.lift_laws.proofs.PairCodes.{sooner}
use Rattle.lift_laws.proofs.ConcatCase.{marks_of_some}
use Rattle.lift_laws.proofs.TypeCase.{all_marks, none_both}

-- what is read of an operand
abbrev pub ReadAs : Reading → Type 0
ReadAs MaybeNumber = Option ℤ
ReadAs OneNumber = ℤ
ReadAs MaybeText = Text
ReadAs OneText = Text

abbrev pub read_as : (r : Reading) → Items → Answer (ReadAs r)
read_as MaybeNumber vs = operand (data_of vs)
read_as OneNumber vs = one_number (data_of vs)
read_as MaybeText vs = text_argument (data_of vs)
read_as OneText vs = one_text (data_of vs)

-- a wrong type comes before a cast that fails
abbrev pub fault_by : Bool → Bool → Option Code
fault_by x y = cond x (Some c.XPTY0004) (cond y (Some c.FORG0001) None)

abbrev by_codes : Option Code → Option Code
by_codes x = fault_by (is_code c.XPTY0004 x) (is_code c.FORG0001 x)

by_type : Some c.XPTY0004 ≡ by_codes (Some c.XPTY0004)
by_type = sym (ap (λ b. fault_by b (code_eq c.FORG0001 c.XPTY0004)) (code_self c.XPTY0004))

by_cast : Some c.FORG0001 ≡ by_codes (Some c.FORG0001)
by_cast = sym (ap (λ b. fault_by b (code_eq c.FORG0001 c.FORG0001)) (rank_apart c.XPTY0004 c.FORG0001 (omega arith)) ∙ ap (fault_by false) (code_self c.FORG0001))

spelled_codes : (o : Option ℤ) → fault_in (or_no_cast o) ≡ by_codes (fault_in (or_no_cast o))
spelled_codes None = by_cast
spelled_codes (Some z) = refl

number_codes : (a : Atom) → fault_in (number_of a) ≡ by_codes (fault_in (number_of a))
number_codes (IntAtom z) = refl
number_codes (UntypedAtom t) = spelled_codes (integer_in t)
number_codes (TextAtom t) = by_type
number_codes (BoolAtom b) = by_type

pub string_codes : (a : Atom) → fault_in (string_of a) ≡ fault_by (is_code c.XPTY0004 (fault_in (string_of a))) false
string_codes (TextAtom t) = refl
string_codes (UntypedAtom t) = refl
string_codes (IntAtom z) = sym (ap (λ b. fault_by b false) (code_self c.XPTY0004))
string_codes (BoolAtom b) = sym (ap (λ b. fault_by b false) (code_self c.XPTY0004))

-- an item beside itself
no_difference : (z : ℤ) → z -ℤ z ≡ pos 0
no_difference z = omega (arith, ints)

nothing_left : (z : ℤ) → code_in (outcome_of (with_value items_of (with_value integer_list (checked (z -ℤ z))))) ≡ None
nothing_left z = ap (λ y. code_in (outcome_of (with_value items_of (with_value integer_list (checked y))))) (no_difference z)

own_number : (v : Cell) → code_in (bare.value f.Subtract (v ∷ v ∷ [])) ≡ fault_in (number_of (atomized v))
own_number v = go (atomized v)
  where
    spelled : (o : Option ℤ) → code_in (outcome_of (with_value items_of (then_rule (both_of (with_value Some (or_no_cast o)) (with_value Some (or_no_cast o))) (on_numbers difference_of)))) ≡ fault_in (or_no_cast o)
    spelled None = refl
    spelled (Some z) = nothing_left z

    go : (a : Atom) → code_in (outcome_of (with_value items_of (arithmetic difference_of (a ∷ []) (a ∷ [])))) ≡ fault_in (number_of a)
    go (IntAtom z) = nothing_left z
    go (UntypedAtom t) = spelled (integer_in t)
    go (TextAtom t) = refl
    go (BoolAtom b) = refl

pub own_text : (v : Cell) → code_in (bare.value f.Compare (v ∷ v ∷ [])) ≡ fault_in (string_of (atomized v))
own_text v = go (atomized v)
  where
    go : (a : Atom) → code_in (outcome_of (with_value items_of (compare_texts (a ∷ []) (a ∷ [])))) ≡ fault_in (string_of a)
    go (TextAtom t) = refl
    go (UntypedAtom t) = refl
    go (IntAtom z) = refl
    go (BoolAtom b) = refl

-- the tests of an operand
abbrev absent_tests : Reading → (Iter → List Cell) → List (Iter → Bool)
absent_tests MaybeNumber h = []
absent_tests OneNumber h = (λ i. not (some (h i))) ∷ []
absent_tests MaybeText h = []
absent_tests OneText h = (λ i. not (some (h i))) ∷ []

abbrev pub unfit_tests : Reading → (Iter → List Cell) → List (Iter → Bool)
unfit_tests r h = (λ i. has_two (h i)) ∷ (λ i. list_any (own_hit (reader r) c.XPTY0004) (h i)) ∷ absent_tests r h

abbrev pub uncast_tests : Reading → (Iter → List Cell) → List (Iter → Bool)
uncast_tests MaybeNumber h = (λ i. list_any (own_hit f.Subtract c.FORG0001) (h i)) ∷ []
uncast_tests OneNumber h = (λ i. list_any (own_hit f.Subtract c.FORG0001) (h i)) ∷ []
uncast_tests MaybeText h = []
uncast_tests OneText h = []

pub with_fault : {A B : Type 0} (k : A → B) (x : Answer A) → fault_in (with_value k x) ≡ fault_in x
with_fault k (Value a) = refl
with_fault k (Refused d) = refl

-- of one item
alone : (b : Bool) → b ≡ not (not false && (not (b || false) && true))
alone true = refl
alone false = refl

once : (b : Bool) → b ≡ not (not (b || false) && true)
once true = refl
once false = refl

number_alone : (v : Cell) → fault_in (number_of (atomized v)) ≡ fault_by (not (not false && (not (own_hit f.Subtract c.XPTY0004 v || false) && true))) (not (not (own_hit f.Subtract c.FORG0001 v || false) && true))
number_alone v =
    number_codes (atomized v) ∙ ap by_codes (sym (own_number v))
    ∙ ap (λ b. fault_by b (own_hit f.Subtract c.FORG0001 v)) (alone (own_hit f.Subtract c.XPTY0004 v))
    ∙ ap (fault_by (not (not false && (not (own_hit f.Subtract c.XPTY0004 v || false) && true)))) (once (own_hit f.Subtract c.FORG0001 v))

text_alone : (v : Cell) → fault_in (string_of (atomized v)) ≡ fault_by (not (not false && (not (own_hit f.Compare c.XPTY0004 v || false) && true))) false
text_alone v =
    string_codes (atomized v) ∙ ap (λ x. fault_by (is_code c.XPTY0004 x) false) (sym (own_text v)) ∙ ap (λ b. fault_by b false) (alone (own_hit f.Compare c.XPTY0004 v))

-- what an operand fails with
pub reading_fault : (r : Reading) (h : Iter → List Cell) (i : Iter) → fault_in (read_as r (h i)) ≡ fault_by (not (none_of (unfit_tests r h) i)) (not (none_of (uncast_tests r h) i))
reading_fault MaybeNumber h i = go (h i)
  where
    go : (vs : Items) → fault_in (operand (data_of vs)) ≡ fault_by (not (not (has_two vs) && (not (list_any (own_hit f.Subtract c.XPTY0004) vs) && true))) (not (not (list_any (own_hit f.Subtract c.FORG0001) vs) && true))
    go [] = refl
    go (v ∷ []) = with_fault Some (number_of (atomized v)) ∙ number_alone v
    go (v ∷ w ∷ vs) = refl
reading_fault OneNumber h i = go (h i)
  where
    go : (vs : Items) → fault_in (one_number (data_of vs)) ≡ fault_by (not (not (has_two vs) && (not (list_any (own_hit f.Subtract c.XPTY0004) vs) && (not (not (some vs)) && true)))) (not (not (list_any (own_hit f.Subtract c.FORG0001) vs) && true))
    go [] = refl
    go (v ∷ []) = number_alone v
    go (v ∷ w ∷ vs) = refl
reading_fault MaybeText h i = go (h i)
  where
    go : (vs : Items) → fault_in (text_argument (data_of vs)) ≡ fault_by (not (not (has_two vs) && (not (list_any (own_hit f.Compare c.XPTY0004) vs) && true))) false
    go [] = refl
    go (v ∷ []) = with_fault _ (with_value Some (string_of (atomized v))) ∙ with_fault Some (string_of (atomized v)) ∙ text_alone v
    go (v ∷ w ∷ vs) = refl
reading_fault OneText h i = go (h i)
  where
    go : (vs : Items) → fault_in (one_text (data_of vs)) ≡ fault_by (not (not (has_two vs) && (not (list_any (own_hit f.Compare c.XPTY0004) vs) && (not (not (some vs)) && true)))) false
    go [] = refl
    go (v ∷ []) = text_alone v
    go (v ∷ w ∷ vs) = refl

-- the tests of all operands, and those of their checks
abbrev pub all_unfit_tests : List Operand → List (Iter → List Cell) → List (Iter → Bool)
all_unfit_tests [] hs = []
all_unfit_tests (o ∷ os) [] = []
all_unfit_tests (o ∷ os) (h ∷ hs) = unfit_tests o.0 h ++ all_unfit_tests os hs

abbrev pub all_uncast_tests : List Operand → List (Iter → List Cell) → List (Iter → Bool)
all_uncast_tests [] hs = []
all_uncast_tests (o ∷ os) [] = []
all_uncast_tests (o ∷ os) (h ∷ hs) = uncast_tests o.0 h ++ all_uncast_tests os hs

abbrev pub tests_by : List (Iter → Bool) → List (Iter → Bool)
tests_by [] = []
tests_by (p ∷ ps) = (λ i. not (none_of (p ∷ ps) i)) ∷ []

abbrev pub operand_tests : List Operand → List (Iter → List Cell) → List (Iter → Bool)
operand_tests os hs = (λ i. not (none_of (all_unfit_tests os hs) i)) ∷ tests_by (all_uncast_tests os hs)

-- the operands stand for these values
abbrev pub Stand : List Operand → List (Iter → List Cell) → List Iter → Type 0
Stand [] [] its = Unit {0}
Stand [] (h ∷ hs) its = ⊥
Stand (o ∷ os) [] its = ⊥
Stand (o ∷ os) (h ∷ hs) its = Same o.1 (value_rows h its) × Stand os hs its

module _ (its : List Iter) (l : List Row) (asc : Ascends (λ i. i.number) 0 its) (sl : Same l (loop_rows its)) where
  pub marks_own : (g : Fun) (d : Code) (h : Iter → List Cell) (a : List Row) → Same a (value_rows h its) → Marks (own_fail_rows g d a) (λ i. list_any (own_hit g d) (h i)) its
  marks_own g d h a sa = marks_items (own_hit g d) (λ r. is_code d (code_in (bare.value g (cells_at bare three (column 2 ∷ column 2 ∷ []) r)))) (λ n j v. refl) h its a asc sa

  pub marks_absent : (h : Iter → List Cell) (a : List Row) → Same a (value_rows h its) → Marks (less l (any_rows a)) (λ i. not (some (h i))) its
  marks_absent h a sa = marks_loop (λ i. not (some (h i))) its _ asc (unmarked_stands (λ i. some (h i)) its l _ sl (marks_any h its a asc sa))

  pub unfit_marks : (r : Reading) (h : Iter → List Cell) (a : List Row) → Same a (value_rows h its) → AllMark (unfit_tables r l a) (unfit_tests r h) its
  unfit_marks MaybeNumber h a sa = (marks_second h its a asc sa, (marks_own f.Subtract c.XPTY0004 h a sa, tt))
  unfit_marks OneNumber h a sa = (marks_second h its a asc sa, (marks_own f.Subtract c.XPTY0004 h a sa, (marks_absent h a sa, tt)))
  unfit_marks MaybeText h a sa = (marks_second h its a asc sa, (marks_own f.Compare c.XPTY0004 h a sa, tt))
  unfit_marks OneText h a sa = (marks_second h its a asc sa, (marks_own f.Compare c.XPTY0004 h a sa, (marks_absent h a sa, tt)))

  uncast_marks : (r : Reading) (h : Iter → List Cell) (a : List Row) → Same a (value_rows h its) → AllMark (uncast_tables r a) (uncast_tests r h) its
  uncast_marks MaybeNumber h a sa = (marks_own f.Subtract c.FORG0001 h a sa, tt)
  uncast_marks OneNumber h a sa = (marks_own f.Subtract c.FORG0001 h a sa, tt)
  uncast_marks MaybeText h a sa = tt
  uncast_marks OneText h a sa = tt

  all_unfit_marks : (os : List Operand) (hs : List (Iter → List Cell)) → Stand os hs its → AllMark (all_unfit l os) (all_unfit_tests os hs) its
  all_unfit_marks [] [] s = tt
  all_unfit_marks [] (h ∷ hs) s = absurd s
  all_unfit_marks (o ∷ os) [] s = absurd s
  all_unfit_marks (o ∷ os) (h ∷ hs) s = all_marks (unfit_tables o.0 l o.1) (all_unfit l os) (unfit_tests o.0 h) (all_unfit_tests os hs) its (unfit_marks o.0 h o.1 s.0) (all_unfit_marks os hs s.1)

  all_uncast_marks : (os : List Operand) (hs : List (Iter → List Cell)) → Stand os hs its → AllMark (all_uncast os) (all_uncast_tests os hs) its
  all_uncast_marks [] [] s = tt
  all_uncast_marks [] (h ∷ hs) s = absurd s
  all_uncast_marks (o ∷ os) [] s = absurd s
  all_uncast_marks (o ∷ os) (h ∷ hs) s = all_marks (uncast_tables o.0 o.1) (all_uncast os) (uncast_tests o.0 h) (all_uncast_tests os hs) its (uncast_marks o.0 h o.1 s.0) (all_uncast_marks os hs s.1)

  pub marks_by : (d : Code) (bs : List (List Row)) (ps : List (Iter → Bool)) → AllMark bs ps its → AllMark (marked_rows (marked_by d l bs)) (tests_by ps) its
  marks_by d [] [] m = tt
  marks_by d [] (p ∷ ps) m = absurd m
  marks_by d (b ∷ bs) [] m = absurd m
  marks_by d (b ∷ bs) (p ∷ ps) m = (marks_of_some (b ∷ bs) (p ∷ ps) its l asc sl m, tt)

  -- the first code, where the tests are those of the tables
  first_by : (d : Code) (bs : List (List Row)) (ps : List (Iter → Bool)) (i : Iter) → AllMark bs ps its → first_coded (map first_mark (marked_by d l bs)) (tests_by ps) i ≡ cond (not (none_of ps i)) (Some d) None
  first_by d [] [] i m = refl
  first_by d [] (p ∷ ps) i m = absurd m
  first_by d (b ∷ bs) [] i m = absurd m
  first_by d (b ∷ bs) (p ∷ ps) i m = refl

  pub operands_first : (os : List Operand) (hs : List (Iter → List Cell)) (i : Iter) → Stand os hs its → first_coded (map first_mark (operand_marks l os)) (operand_tests os hs) i ≡ fault_by (not (none_of (all_unfit_tests os hs) i)) (not (none_of (all_uncast_tests os hs) i))
  operands_first os hs i s = ap (cond (not (none_of (all_unfit_tests os hs) i)) (Some c.XPTY0004)) (first_by c.FORG0001 (all_uncast os) (all_uncast_tests os hs) i (all_uncast_marks os hs s))

  -- the checks' rows name what the tests say
  pub operands_mark : (os : List Operand) (hs : List (Iter → List Cell)) → Stand os hs its → AllMark (marked_rows (operand_marks l os)) (operand_tests os hs) its
  operands_mark os hs s = (
    marks_of_some (all_unfit l os) (all_unfit_tests os hs) its l asc sl (all_unfit_marks os hs s),
    marks_by c.FORG0001 (all_uncast os) (all_uncast_tests os hs) (all_uncast_marks os hs s),
  )

  -- the iterations that no check names
  pub calm_stands : (ms : List (Code × List Row)) (ps : List (Iter → Bool)) → AllMark (marked_rows ms) ps its → Same (calm_rows l ms) (loop_rows (filter (none_of ps) its))
  calm_stands ms ps m = cleared_stands (marked_rows ms) ps its l sl m

-- the codes of the checks
pub operands_ranked : (l : List Row) (os : List Operand) → Ranked (map first_mark (operand_marks l os))
operands_ranked l os = go (all_uncast os)
  where
    go : (bs : List (List Row)) → Ranked (c.XPTY0004 ∷ map first_mark (marked_by c.FORG0001 l bs))
    go [] = (tt, tt)
    go (b ∷ bs) = ((omega arith, tt), (tt, tt))

pub operands_dynamic : (l : List Row) (os : List Operand) → AllOf (λ (q : Code × List Row). is_dynamic q.0 ≡ true) (operand_marks l os)
operands_dynamic l os = (refl, go (all_uncast os))
  where
    go : (bs : List (List Row)) → AllOf (λ (q : Code × List Row). is_dynamic q.0 ≡ true) (marked_by c.FORG0001 l bs)
    go [] = tt
    go (b ∷ bs) = (refl, tt)

-- whether there is no code
abbrev pub calm : Option Code → Bool
calm None = true
calm (Some d) = false

pub calm_none : (x : Option Code) → calm x ≡ true → x ≡ None
calm_none None e = refl
calm_none (Some d) e = cc

pub none_given : (x : Answer Items) → calm (fault_in x) ≡ false → list_of (value_in x) ≡ []
none_given (Value vs) e = cc
none_given (Refused d) e = refl

-- no test holds where there is no first code
pub none_first : (ms : List (Code × List Row)) (ps : List (Iter → Bool)) (its : List Iter) (i : Iter) → AllMark (marked_rows ms) ps its → none_of ps i ≡ calm (first_coded (map first_mark ms) ps i)
none_first [] [] its i m = refl
none_first [] (p ∷ ps) its i m = absurd m
none_first (q ∷ ms) [] its i m = absurd m
none_first (q ∷ ms) (p ∷ ps) its i m =
    let r = none_first ms ps its i m.1 in
    elim (p i) as (λ b. (not b && none_of ps i) ≡ calm (cond b (Some q.0) (first_coded (map first_mark ms) ps i))) [ true ↦ refl | false ↦ r ]

-- operands that are judged side by side
pub both_fault : {A B : Type 0} (x : Answer A) (y : Answer B) → fault_in (both_of x y) ≡ sooner (fault_in x) (fault_in y)
both_fault (Value a) (Value b) = refl
both_fault (Value a) (Refused e) = refl
both_fault (Refused d) (Value b) = refl
both_fault (Refused d) (Refused e) = refl

merged : (a b d e : Bool) → sooner (fault_by (not a) (not b)) (fault_by (not d) (not e)) ≡ fault_by (not (a && d)) (not (b && e))
merged true true true true = refl
merged true true true false = refl
merged true true false e = refl
merged true false true true = refl
merged true false true false = refl
merged true false false e = refl
merged false b true true = refl
merged false b true false = refl
merged false b false e = refl

pub two_faults : {A B : Type 0} (x : Answer A) (y : Answer B) (a b d e : Bool) → fault_in x ≡ fault_by (not a) (not b) → fault_in y ≡ fault_by (not d) (not e) → fault_in (both_of x y) ≡ fault_by (not (a && d)) (not (b && e))
two_faults x y a b d e p q = both_fault x y ∙ ap (λ z. sooner z (fault_in y)) p ∙ ap (sooner (fault_by (not a) (not b))) q ∙ merged a b d e

-- two operands
pub fault_of_two : (q r : Reading) (a b : List Row) (h k : Iter → List Cell) (i : Iter)
    → fault_in (both_of (read_as q (h i)) (read_as r (k i))) ≡ fault_by (not (none_of (all_unfit_tests ((q, a) ∷ (r, b) ∷ []) (h ∷ k ∷ [])) i)) (not (none_of (all_uncast_tests ((q, a) ∷ (r, b) ∷ []) (h ∷ k ∷ [])) i))
fault_of_two q r a b h k i =
    two_faults (read_as q (h i)) (read_as r (k i)) (none_of (unfit_tests q h) i) (none_of (uncast_tests q h) i) (none_of (unfit_tests r k) i) (none_of (uncast_tests r k) i) (reading_fault q h i) (reading_fault r k i)
    ∙ ap (λ z. fault_by (not z) (not (none_of (uncast_tests q h) i && none_of (uncast_tests r k) i))) (sym (split (unfit_tests q h) (unfit_tests r k)))
    ∙ ap (λ z. fault_by (not (none_of (all_unfit_tests ((q, a) ∷ (r, b) ∷ []) (h ∷ k ∷ [])) i)) (not z)) (sym (split (uncast_tests q h) (uncast_tests r k)))
  where
    split : (ps qs : List (Iter → Bool)) → none_of (ps ++ (qs ++ [])) i ≡ (none_of ps i && none_of qs i)
    split ps qs = none_both ps (qs ++ []) i ∙ ap (λ b. none_of ps i && b) (none_both qs [] i ∙ and-true (none_of qs i))

-- three operands
pub fault_of_three : (q r t : Reading) (a b d : List Row) (h k j : Iter → List Cell) (i : Iter)
    → fault_in (both_of (both_of (read_as q (h i)) (read_as r (k i))) (read_as t (j i)))
    ≡ fault_by (not (none_of (all_unfit_tests ((q, a) ∷ (r, b) ∷ (t, d) ∷ []) (h ∷ k ∷ j ∷ [])) i)) (not (none_of (all_uncast_tests ((q, a) ∷ (r, b) ∷ (t, d) ∷ []) (h ∷ k ∷ j ∷ [])) i))
fault_of_three q r t a b d h k j i =
    two_faults (both_of (read_as q (h i)) (read_as r (k i))) (read_as t (j i)) (none_of (unfit_tests q h) i && none_of (unfit_tests r k) i) (none_of (uncast_tests q h) i && none_of (uncast_tests r k) i) (none_of (unfit_tests t j) i) (none_of (uncast_tests t j) i)
    (two_faults (read_as q (h i)) (read_as r (k i)) (none_of (unfit_tests q h) i) (none_of (uncast_tests q h) i) (none_of (unfit_tests r k) i) (none_of (uncast_tests r k) i) (reading_fault q h i) (reading_fault r k i))
    (reading_fault t j i)
    ∙ ap (λ z. fault_by (not z) (not ((none_of (uncast_tests q h) i && none_of (uncast_tests r k) i) && none_of (uncast_tests t j) i))) (sym (split (unfit_tests q h) (unfit_tests r k) (unfit_tests t j)))
    ∙ ap (λ z. fault_by (not (none_of (all_unfit_tests ((q, a) ∷ (r, b) ∷ (t, d) ∷ []) (h ∷ k ∷ j ∷ [])) i)) (not z)) (sym (split (uncast_tests q h) (uncast_tests r k) (uncast_tests t j)))
  where
    grouped : (x y z : Bool) → (x && (y && (z && true))) ≡ ((x && y) && z)
    grouped true y z = ap (λ w. y && w) (and-true z)
    grouped false y z = refl

    split : (ps qs os : List (Iter → Bool)) → none_of (ps ++ (qs ++ (os ++ []))) i ≡ ((none_of ps i && none_of qs i) && none_of os i)
    split ps qs os =
        none_both ps (qs ++ (os ++ [])) i ∙ ap (λ z. none_of ps i && z) (none_both qs (os ++ []) i) ∙ ap (λ z. none_of ps i && (none_of qs i && z)) (none_both os [] i)
        ∙ grouped (none_of ps i) (none_of qs i) (none_of os i)

-- one item alone
abbrev pub Single : Items → Type 0
Single vs = (v : Cell) × (vs ≡ v ∷ [])

pub number_single : (vs : Items) → fault_in (read_as OneNumber vs) ≡ None → Single vs
number_single [] e = cc
number_single (v ∷ []) e = (v, refl)
number_single (v ∷ w ∷ vs) e = cc

pub text_single : (vs : Items) → fault_in (read_as OneText vs) ≡ None → Single vs
text_single [] e = cc
text_single (v ∷ []) e = (v, refl)
text_single (v ∷ w ∷ vs) e = cc

pub filled_single : (vs : Items) → fault_in (read_as MaybeText vs) ≡ None → Single (fill (TextItem []) vs)
filled_single [] e = (TextItem [], refl)
filled_single (v ∷ []) e = (v, refl)
filled_single (v ∷ w ∷ vs) e = cc

pub filled_read : (vs : Items) → read_as MaybeText (fill (TextItem []) vs) ≡ read_as MaybeText vs
filled_read [] = refl
filled_read (v ∷ vs) = refl

-- where both have no fault neither has
pub both_calm : {A B : Type 0} (x : Answer A) (y : Answer B) → fault_in (both_of x y) ≡ None → (fault_in x ≡ None) × (fault_in y ≡ None)
both_calm (Value a) (Value b) e = (refl, refl)
both_calm (Value a) (Refused d) e = cc
both_calm (Refused d) (Value b) e = cc
both_calm (Refused d) (Refused k) e = cc

-- a value that is told where there is no fault
pub where_calm : (x : Answer Items) (b : Bool) (vs : Items) → b ≡ calm (fault_in x) → (fault_in x ≡ None → vs ≡ list_of (value_in x)) → cond b vs [] ≡ list_of (value_in x)
where_calm x true vs e k = k (calm_none (fault_in x) (sym e))
where_calm x false vs e k = sym (none_given x (sym e))
