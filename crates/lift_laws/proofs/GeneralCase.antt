-- Calls of general comparisons, from the rows of their operators: which iterations have a pair that is true, or that fails.
use Rattle.std.proofs.Common.{◌≡◌, ℕ, ◌+◌, ◌≤◌, Bool, true, false, cond, ◌&&◌, ◌||◌, List, [], ◌∷◌, ◌++◌, length, map, refl, sym, ap, ◌∙◌, inl, inr, ⊎_elim, arith, Option, Some, None, nat_eq, nat_lt}
use Rattle.std.proofs.Math.Bool.{and-true, or_assoc}
use Rattle.std.specs.List.{filter, flat_map, list_any}
use Rattle.std.proofs.Math.Nat.{max-le}
use Rattle.xq_base.specs.declared.code.Code.{Code}
use Rattle.xq_base.specs.declared.code.Code.TheVariants as c
use Rattle.xq_base.specs.declared.fun.CompOp.{CompOp}
use Rattle.xq_base.specs.declared.fun.CompOp.TheVariants as o
use Rattle.xq_base.specs.Answers.{Answer, Value, Fault as Refused, with_value, then_rule}
use Rattle.xq_base.specs.Texts.{integer_in, boolean_in}
use Rattle.xq_base.specs.Atoms.{Atom, IntAtom, TextAtom, UntypedAtom, BoolAtom, spelled}
use Rattle.xq_base.specs.Comparisons.{compared, general_pair, either_of, some_true, truth, is_true_answer}
use Rattle.doc_table.specs.Items.{BoolItem}
use Rattle.doc_table.specs.Values.{Items, items_of, item_of_atom, atomized, data_of}
use Rattle.doc_table.specs.NodeRules.{Docs}
use Rattle.doc_table.specs.Functions.{fun_answer}
use Rattle.plan_dag.specs.declared.op.OpId.{OpId}
use Rattle.plan_dag.specs.declared.check.Check.{Check}
use Rattle.plan_dag.specs.Cells.{Outcome}
use Rattle.plan_dag.specs.ItemRules.{Cell, cell_eq, atom_in, atoms_outcome, bool_outcome}
use Rattle.plan_dag.specs.Rows.{is_code, group_rows}
use Rattle.plan_dag.specs.Meaning.{cell, is_true_outcome, fails_with}
use Rattle.core_meaning.specs.Expr.{Site, Apply}
use Rattle.core_meaning.specs.Meaning.{value_in}
use Rattle.lift_laws.specs.Sums.{total, count, bit, AllOf, Ascends, Same}
use Rattle.lift_laws.specs.Iterations.{Row, Iter, num, item_rows, value_rows, loop_rows}
use Rattle.lift_laws.specs.Bulk.{list_of, own_walks}
use Rattle.lift_laws.specs.States.{State, at, Makes, column, three, single}
use Rattle.lift_laws.specs.Shapes.{bare, data_rows}
use Rattle.lift_laws.specs.Stages.{Stages}
use Rattle.lift_laws.specs.Pairs.{OfBoth, general_fun, pair_rows, general_marks, general_rows, general_most}
use Rattle.lift_laws.specs.Lifting.{CallLifts}
use Rattle.lift_laws.proofs.Numbers.{num_same}
use Rattle.lift_laws.proofs.Multi.{same-of, same-trans, same-length, length-total, total-ext, total-map, total-flat, total-keep}
use Rattle.lift_laws.proofs.Picks.{Picked, picks, all_each, all_mono, all-map, all-flat, flat-all, total-all}
use Rattle.lift_laws.proofs.Sizes.{size_cells, size_loop}
use Rattle.lift_laws.proofs.Simple.{is_there, any_count}
use Rattle.lift_laws.proofs.Marks.{Marks, marks_is, fault_in, code_self, code_apart}
use Rattle.lift_laws.proofs.Firsts.{item, key, named, one_first}
use Rattle.lift_laws.proofs.DataCase.{as_atom, data_stands}
use Rattle.lift_laws.proofs.FunctionCases.{truth_stands}
use Rattle.lift_laws.proofs.TruthCase.{zero_if, bit_back}
use Rattle.lift_laws.proofs.PairCodes.{sooner, AmongBoth}
use Rattle.lift_laws.proofs.PairFunctions.{compared_both}
use Rattle.lift_laws.proofs.Stagings.{stages_two}

-- first occurrences name what all rows name
named_groups : (n : ℕ) (rs : List Row) → is_there (num n) (map (λ l. key l ∷ []) (group_rows bare key rs)) ≡ named n rs
named_groups n rs =
    any_count (λ r. cell_eq (num n) (cell bare single (column 0) r)) (map (λ l. key l ∷ []) (group_rows bare key rs))
    ∙ ap (nat_lt 0) (total-map (λ r. bit (cell_eq (num n) (cell bare single (column 0) r))) (λ l. key l ∷ []) (group_rows bare key rs) ∙ one_first n (λ k. 1) [] rs)
    ∙ ap (λ b. nat_lt 0 (cond b 1 0)) (and-true (named n rs)) ∙ bit_back (named n rs)

-- the iterations with a pair that passes
abbrev has_pair : (Cell → Cell → Bool) → List Row → Row → Bool
has_pair test rs l = list_any (λ r. cell_eq (key l) (key r) && test (item l) (item r)) rs

module _ (test : Cell → Cell → Bool) (f g : Iter → List Cell) (its : List Iter) (ls rs : List Row) (asc : Ascends (λ i. i.number) 0 its) (sl : Same ls (value_rows f its)) (sr : Same rs (value_rows g its)) where
  right_items : (u : Cell) (n m k : ℕ) (vs : List Cell) → total (λ r. bit (cell_eq (num n) (key r) && test u (item r))) (item_rows m k vs) ≡ cond (nat_eq n m) (count (test u) vs) 0
  right_items u n m k [] = sym (zero_if (nat_eq n m))
  right_items u n m k (v ∷ vs) =
      ap (λ b. bit (b && test u v) + total (λ r. bit (cell_eq (num n) (key r) && test u (item r))) (item_rows m (k + 1) vs)) (num_same n m)
      ∙ ap (λ t. bit (nat_eq n m && test u v) + t) (right_items u n m (k + 1) vs)
      ∙ elim (nat_eq n m) as (λ b. bit (b && test u v) + cond b (count (test u) vs) 0 ≡ cond b (bit (test u v) + count (test u) vs) 0) [ true ↦ refl | false ↦ refl ]

  pair_at : (j : Iter) → Picked (λ (q : Iter). q.number) its j → (k : ℕ) (u : Cell) → has_pair test rs (num j.number ∷ num k ∷ u ∷ []) ≡ list_any (test u) (g j)
  pair_at j h k u =
      any_count (λ r. cell_eq (num j.number) (key r) && test u (item r)) rs
      ∙ ap (nat_lt 0)
      (sr.at (λ r. bit (cell_eq (num j.number) (key r) && test u (item r)))
      ∙ total-flat (λ r. bit (cell_eq (num j.number) (key r) && test u (item r))) (λ q. item_rows q.number 1 (g q)) its
      ∙ total-ext _ _ its (λ q. right_items u j.number q.number 1 (g q))
      ∙ h (λ q. count (test u) (g q)))
      ∙ sym (any_count (test u) (g j))

  flip : (a b : Bool) (t : ℕ) → cond a (bit b) 0 + cond b t 0 ≡ cond b (bit a + t) 0
  flip true true t = refl
  flip true false t = refl
  flip false true t = refl
  flip false false t = refl

  lefts : (n : ℕ) (j : Iter) → Picked (λ (q : Iter). q.number) its j → (k : ℕ) (us : List Cell) → total (λ l. cond (has_pair test rs l) (bit (cell_eq (num n) (key l))) 0) (item_rows j.number k us) ≡ cond (nat_eq n j.number) (count (λ u. list_any (test u) (g j)) us) 0
  lefts n j h k [] = sym (zero_if (nat_eq n j.number))
  lefts n j h k (u ∷ us) =
      ap (λ d. cond d (bit (cell_eq (num n) (num j.number))) 0 + total (λ l. cond (has_pair test rs l) (bit (cell_eq (num n) (key l))) 0) (item_rows j.number (k + 1) us)) (pair_at j h k u)
      ∙ ap (λ b. cond (list_any (test u) (g j)) (bit b) 0 + total (λ l. cond (has_pair test rs l) (bit (cell_eq (num n) (key l))) 0) (item_rows j.number (k + 1) us)) (num_same n j.number)
      ∙ ap (λ t. cond (list_any (test u) (g j)) (bit (nat_eq n j.number)) 0 + t) (lefts n j h (k + 1) us)
      ∙ flip (list_any (test u) (g j)) (nat_eq n j.number) (count (λ u. list_any (test u) (g j)) us)

  marks_pairs : Marks (map (λ l. key l ∷ []) (group_rows bare key (filter (has_pair test rs) ls))) (λ i. list_any (λ u. list_any (test u) (g i)) (f i)) its
  marks_pairs = record {
    each = all_mono _ _ (λ i (h : Picked (λ (j : Iter). j.number) its i).
        named_groups i.number (filter (has_pair test rs) ls)
        ∙ any_count (λ r. cell_eq (num i.number) (key r)) (filter (has_pair test rs) ls)
        ∙ ap (nat_lt 0)
        (total-keep (λ l. bit (cell_eq (num i.number) (key l))) (has_pair test rs) ls
        ∙ sl.at (λ l. cond (has_pair test rs l) (bit (cell_eq (num i.number) (key l))) 0)
        ∙ total-flat (λ l. cond (has_pair test rs l) (bit (cell_eq (num i.number) (key l))) 0) (λ j. item_rows j.number 1 (f j)) its
        ∙ total-all _ _ its (all_mono _ _ (λ j (k : Picked (λ (q : Iter). q.number) its j). lefts i.number j k 1 (f j)) its (picks (λ i. i.number) 0 its asc))
        ∙ h (λ j. count (λ u. list_any (test u) (g j)) (f j)))
        ∙ sym (any_count (λ u. list_any (test u) (g i)) (f i))) its (picks (λ i. i.number) 0 its asc);
  }

pub any_map : {A B : Type 0} (p : B → Bool) (f : A → B) (xs : List A) → list_any p (map f xs) ≡ list_any (λ x. p (f x)) xs
any_map p f [] = refl
any_map p f (x ∷ xs) = ap (λ b. p (f x) || b) (any_map p f xs)

any_append : {A : Type 0} (p : A → Bool) (xs ys : List A) → list_any p (xs ++ ys) ≡ (list_any p xs || list_any p ys)
any_append p [] ys = refl
any_append p (x ∷ xs) ys = ap (λ b. p x || b) (any_append p xs ys) ∙ sym (or_assoc (p x) (list_any p xs) (list_any p ys))

pub any_flat : {A B : Type 0} (p : B → Bool) (f : A → List B) (xs : List A) → list_any p (flat_map f xs) ≡ list_any (λ x. list_any p (f x)) xs
any_flat p f [] = refl
any_flat p f (x ∷ xs) = any_append p (f x) (flat_map f xs) ∙ ap (λ b. list_any p (f x) || b) (any_flat p f xs)

pub any_ext : {A : Type 0} (p q : A → Bool) (xs : List A) → ((x : A) → p x ≡ q x) → list_any p xs ≡ list_any q xs
any_ext p q [] h = refl
any_ext p q (x ∷ xs) h = ap (λ b. b || list_any p xs) (h x) ∙ ap (λ b. q x || b) (any_ext p q xs h)

-- the pairs of two operands
abbrev pairs_of : CompOp → Items → Items → List (Answer Bool)
pairs_of op us vs = flat_map (λ a. map (general_pair op a) (data_of vs)) (data_of us)

pairs_any : (p : Answer Bool → Bool) (op : CompOp) (us vs : Items) → list_any (λ u. list_any (λ v. p (general_pair op (atomized u) (atomized v))) vs) us ≡ list_any p (pairs_of op us vs)
pairs_any p op us vs =
    any_ext _ _ us (λ u. sym (any_map p (general_pair op (atomized u)) (data_of vs) ∙ any_map (λ a. p (general_pair op (atomized u) a)) atomized vs))
    ∙ sym (any_flat p (λ a. map (general_pair op a) (data_of vs)) (data_of us) ∙ any_map (λ a. list_any p (map (general_pair op a) (data_of vs))) atomized us)

atom_back : (a : Atom) → atom_in (item_of_atom a) ≡ Some a
atom_back (IntAtom z) = refl
atom_back (TextAtom t) = refl
atom_back (UntypedAtom t) = refl
atom_back (BoolAtom b) = refl

pair_is : (op : CompOp) (u v : Cell) → bare.pair op (as_atom u) (as_atom v) ≡ bool_outcome (general_pair op (atomized u) (atomized v))
pair_is op u v = ap (λ x. atoms_outcome op x (atom_in (as_atom v))) (atom_back (atomized u)) ∙ ap (atoms_outcome op (Some (atomized u))) (atom_back (atomized v))

marks_pass : (passes : Outcome Bool → Bool) (op : CompOp) (f g : Iter → List Cell) (its : List Iter) (a b : List Row) → Ascends (λ i. i.number) 0 its → Same a (value_rows f its) → Same b (value_rows g its)
    → Marks (pair_rows passes op a b) (λ i. list_any (λ x. passes (bool_outcome x)) (pairs_of op (f i) (g i))) its
marks_pass passes op f g its a b asc sa sb =
    marks_is (all_each _ (λ i.
    any_map (λ u. list_any (λ v. passes (bare.pair op u v)) (map as_atom (g i))) as_atom (f i)
    ∙ any_ext _ _ (f i) (λ u. any_map (λ v. passes (bare.pair op (as_atom u) v)) as_atom (g i) ∙ any_ext _ _ (g i) (λ v. ap passes (pair_is op u v)))
    ∙ pairs_any (λ x. passes (bool_outcome x)) op (f i) (g i)) its)
    (marks_pairs (λ u v. passes (bare.pair op u v)) (λ i. map as_atom (f i)) (λ i. map as_atom (g i)) its (data_rows a) (data_rows b) asc (data_stands f its a sa) (data_stands g its b sb))

-- a pair fails with one of two codes
abbrev PairFault : Option Code → Type 0
PairFault x = AmongBoth x (OfBoth c.XPTY0004 ∷ OfBoth c.FORG0001 ∷ [])

wrong_type : (x : Option Code) → AmongBoth x (OfBoth c.XPTY0004 ∷ []) → PairFault x
wrong_type x h = ⊎_elim (λ q. inl q) (λ q. inr (inr q)) h

cast_fault : {A : Type 0} (h : A → Atom) (k : Atom → Answer Bool) (o : Option A) → ((x : A) → PairFault (fault_in (k (h x)))) → PairFault (fault_in (then_rule (spelled h o) k))
cast_fault h k None e = inr (inl refl)
cast_fault h k (Some x) e = e x

pair_fault : (op : CompOp) (a b : Atom) → PairFault (fault_in (general_pair op a b))
pair_fault op (IntAtom y) (IntAtom z) = inr (inr refl)
pair_fault op (IntAtom y) (TextAtom u) = inl refl
pair_fault op (IntAtom y) (UntypedAtom u) = cast_fault IntAtom (λ a. compared op (IntAtom y) a) (integer_in u) (λ x. wrong_type _ (compared_both op (IntAtom y) (IntAtom x)))
pair_fault op (IntAtom y) (BoolAtom b) = inl refl
pair_fault op (TextAtom t) (IntAtom z) = inl refl
pair_fault op (TextAtom t) (TextAtom u) = inr (inr refl)
pair_fault op (TextAtom t) (UntypedAtom u) = inr (inr refl)
pair_fault op (TextAtom t) (BoolAtom b) = inl refl
pair_fault op (UntypedAtom t) (IntAtom z) = cast_fault IntAtom (λ a. compared op a (IntAtom z)) (integer_in t) (λ x. wrong_type _ (compared_both op (IntAtom x) (IntAtom z)))
pair_fault op (UntypedAtom t) (TextAtom u) = inr (inr refl)
pair_fault op (UntypedAtom t) (UntypedAtom u) = inr (inr refl)
pair_fault op (UntypedAtom t) (BoolAtom b) = cast_fault BoolAtom (λ a. compared op a (BoolAtom b)) (boolean_in t) (λ x. wrong_type _ (compared_both op (BoolAtom x) (BoolAtom b)))
pair_fault op (BoolAtom a) (IntAtom z) = inl refl
pair_fault op (BoolAtom a) (TextAtom u) = inl refl
pair_fault op (BoolAtom a) (UntypedAtom u) = cast_fault BoolAtom (λ b. compared op (BoolAtom a) b) (boolean_in u) (λ x. wrong_type _ (compared_both op (BoolAtom a) (BoolAtom x)))
pair_fault op (BoolAtom a) (BoolAtom b) = inr (inr refl)

-- the first code of all pairs
abbrev fails : Code → Answer Bool → Bool
fails d x = is_code d (fault_in x)

abbrev first_two : Bool → Bool → Option Code
first_two p q = cond p (Some c.XPTY0004) (cond q (Some c.FORG0001) None)

either_fault : (x y : Answer Bool) → fault_in (either_of x y) ≡ sooner (fault_in x) (fault_in y)
either_fault (Value a) (Value b) = refl
either_fault (Value a) (Refused e) = refl
either_fault (Refused d) (Value b) = refl
either_fault (Refused d) (Refused e) = refl

sooner_type : (p q : Bool) → sooner (Some c.XPTY0004) (first_two p q) ≡ Some c.XPTY0004
sooner_type true q = refl
sooner_type false true = refl
sooner_type false false = refl

sooner_cast : (p q : Bool) → sooner (Some c.FORG0001) (first_two p q) ≡ first_two p true
sooner_cast true q = refl
sooner_cast false true = refl
sooner_cast false false = refl

sooner_two : (x : Option Code) (p q : Bool) → PairFault x → sooner x (first_two p q) ≡ first_two (is_code c.XPTY0004 x || p) (is_code c.FORG0001 x || q)
sooner_two x p q h = ⊎_elim of_type (λ k. ⊎_elim of_cast of_none k) h
  where
    of_type : x ≡ Some c.XPTY0004 → sooner x (first_two p q) ≡ first_two (is_code c.XPTY0004 x || p) (is_code c.FORG0001 x || q)
    of_type e =
        ap (λ z. sooner z (first_two p q)) e ∙ sooner_type p q
        ∙ sym (ap (λ z. first_two (is_code c.XPTY0004 z || p) (is_code c.FORG0001 z || q)) e ∙ ap (λ b. first_two (b || p) (is_code c.FORG0001 (Some c.XPTY0004) || q)) (code_self c.XPTY0004))

    of_cast : x ≡ Some c.FORG0001 → sooner x (first_two p q) ≡ first_two (is_code c.XPTY0004 x || p) (is_code c.FORG0001 x || q)
    of_cast e =
        ap (λ z. sooner z (first_two p q)) e ∙ sooner_cast p q
        ∙ sym (ap (λ z. first_two (is_code c.XPTY0004 z || p) (is_code c.FORG0001 z || q)) e ∙ ap (λ b. first_two (b || p) (is_code c.FORG0001 (Some c.FORG0001) || q)) (code_apart c.XPTY0004 c.FORG0001 (λ z. cc)) ∙ ap (λ b. first_two p (b || q)) (code_self c.FORG0001))

    of_none : x ≡ None → sooner x (first_two p q) ≡ first_two (is_code c.XPTY0004 x || p) (is_code c.FORG0001 x || q)
    of_none e = ap (λ z. sooner z (first_two p q)) e ∙ sym (ap (λ z. first_two (is_code c.XPTY0004 z || p) (is_code c.FORG0001 z || q)) e)

pairs_fault : (xs : List (Answer Bool)) → AllOf (λ x. PairFault (fault_in x)) xs → fault_in (some_true xs) ≡ first_two (list_any (fails c.XPTY0004) xs) (list_any (fails c.FORG0001) xs)
pairs_fault [] h = refl
pairs_fault (x ∷ xs) h = either_fault x (some_true xs) ∙ ap (sooner (fault_in x)) (pairs_fault xs h.1) ∙ sooner_two (fault_in x) (list_any (fails c.XPTY0004) xs) (list_any (fails c.FORG0001) xs) h.0

-- where no pair fails, one is true or none
pairs_value : (xs : List (Answer Bool)) → fault_in (some_true xs) ≡ None → some_true xs ≡ Value (list_any is_true_answer xs)
pairs_value [] h = refl
pairs_value (x ∷ xs) h = go x (some_true xs) refl h (λ k. pairs_value xs k)
  where
    go : (y z : Answer Bool) → some_true xs ≡ z → fault_in (either_of y z) ≡ None → (fault_in (some_true xs) ≡ None → some_true xs ≡ Value (list_any is_true_answer xs)) → either_of y z ≡ Value (is_true_answer y || list_any is_true_answer xs)
    go (Value a) (Value b) e k r = ap (either_of (Value a)) (sym e ∙ r (ap fault_in e))
    go (Value a) (Refused d) e k r = cc
    go (Refused d) (Value b) e k r = cc
    go (Refused d) (Refused d') e k r = cc

all_pairs : (op : CompOp) (as' bs : List Atom) → AllOf (λ x. PairFault (fault_in x)) (flat_map (λ a. map (general_pair op a) bs) as')
all_pairs op as' bs = all-flat _ (λ a. map (general_pair op a) bs) as' (all_each _ (λ a. all-map _ (general_pair op a) bs (all_each _ (λ b. pair_fault op a b) bs)) as')

abbrev answer : CompOp → Items → Items → Answer Items
answer op us vs = with_value items_of (with_value truth (some_true (pairs_of op us vs)))

truth_fault : (x : Answer Bool) → fault_in (with_value items_of (with_value truth x)) ≡ fault_in x
truth_fault (Value b) = refl
truth_fault (Refused d) = refl

outcome_fails : (d : Code) (x : Answer Bool) → fails_with d (bool_outcome x) ≡ fails d x
outcome_fails d (Value b) = refl
outcome_fails d (Refused e) = refl

outcome_true : (x : Answer Bool) → is_true_outcome (bool_outcome x) ≡ is_true_answer x
outcome_true (Value b) = refl
outcome_true (Refused e) = refl

faults_are : (op : CompOp) (us vs : Items) → fault_in (answer op us vs) ≡ first_two (list_any (λ x. fails_with c.XPTY0004 (bool_outcome x)) (pairs_of op us vs)) (list_any (λ x. fails_with c.FORG0001 (bool_outcome x)) (pairs_of op us vs))
faults_are op us vs =
    truth_fault (some_true (pairs_of op us vs)) ∙ pairs_fault (pairs_of op us vs) (all_pairs op (data_of us) (data_of vs))
    ∙ ap (λ b. first_two b (list_any (fails c.FORG0001) (pairs_of op us vs))) (any_ext _ _ (pairs_of op us vs) (λ x. sym (outcome_fails c.XPTY0004 x)))
    ∙ ap (first_two (list_any (λ x. fails_with c.XPTY0004 (bool_outcome x)) (pairs_of op us vs))) (any_ext _ _ (pairs_of op us vs) (λ x. sym (outcome_fails c.FORG0001 x)))

abbrev some_pair : CompOp → Items → Items → Bool
some_pair op us vs = list_any (λ x. is_true_outcome (bool_outcome x)) (pairs_of op us vs)

as_is : (b : Bool) → cond b true false ≡ b
as_is true = refl
as_is false = refl

values_are : (op : CompOp) (us vs : Items) → fault_in (answer op us vs) ≡ None → BoolItem (cond (some_pair op us vs) true false) ∷ [] ≡ list_of (value_in (answer op us vs))
values_are op us vs e =
    ap (λ b. BoolItem b ∷ []) (as_is (some_pair op us vs) ∙ any_ext _ _ (pairs_of op us vs) outcome_true)
    ∙ sym (ap (λ x. list_of (value_in (with_value items_of (with_value truth x)))) (pairs_value (pairs_of op us vs) (sym (truth_fault (some_true (pairs_of op us vs))) ∙ e)))

answer_is : (docs : Docs) (op : CompOp) (us vs : Items) → fun_answer docs (general_fun op) (us ∷ vs ∷ []) ≡ answer op us vs
answer_is docs o.Eq us vs = refl
answer_is docs o.Ne us vs = refl
answer_is docs o.Lt us vs = refl
answer_is docs o.Le us vs = refl
answer_is docs o.Gt us vs = refl
answer_is docs o.Ge us vs = refl

no_step : (site : Site) (op : CompOp) → own_walks site (Apply (general_fun op)) ≡ []
no_step site op = refl

pub general_call : (docs : Docs) (s s1 s2 : State) (site : Site) (op : CompOp) (looped a b t : OpId) (cs : List Check)
    → Makes s s1 t three (general_rows op (at s looped).rows (at s a).rows (at s b).rows) (general_most op (at s looped).rows (at s a).rows (at s b).rows)
    → Stages site (length (at s looped).rows + length (at s a).rows + length (at s b).rows) s1 s2 (at s looped).rows (general_marks op (at s a).rows (at s b).rows) cs
    → CallLifts docs s s2 site (Apply (general_fun op)) looped (a ∷ b ∷ []) t
general_call docs s s1 s2 site op looped a b t cs m st =
    stages_two docs s s1 s2 site (Apply (general_fun op)) looped a b t cs (general_marks op (at s a).rows (at s b).rows) (general_rows op (at s looped).rows (at s a).rows (at s b).rows ∷ []) tests (no_step site op) ((omega arith, tt), (tt, tt)) (refl, (refl, tt)) _ _ _ m st
    (λ N l w. (max-le l w.0, l)) (answer op) (λ h k i. answer_is docs op (h i) (k i)) (λ h k i. faults_are op (h i) (k i))
    (λ its h k asc sl sa sb. (marks_pass (fails_with c.XPTY0004) op h k its _ _ asc sa sb, (marks_pass (fails_with c.FORG0001) op h k its _ _ asc sa sb, tt)))
    (λ its h k asc sl sa sb. (few its h k asc sl sa sb, tt))
    (λ its h k asc sl sa sb tree rooted rooted' calm.
    same-trans (stand its h k asc sl sa sb) (same-of (flat-all _ _ its (all_mono _ _ (λ i (e : fault_in (answer op (h i) (k i)) ≡ None). ap (item_rows i.number 1) (values_are op (h i) (k i) e)) its calm))))
  where
    tests : (Iter → List Cell) → (Iter → List Cell) → List (Iter → Bool)
    tests h k = (λ i. list_any (λ x. fails_with c.XPTY0004 (bool_outcome x)) (pairs_of op (h i) (k i))) ∷ (λ i. list_any (λ x. fails_with c.FORG0001 (bool_outcome x)) (pairs_of op (h i) (k i))) ∷ []

    stand : (its : List Iter) (h k : Iter → List Cell) → Ascends (λ i. i.number) 0 its → Same (at s looped).rows (loop_rows its) → Same (at s a).rows (value_rows h its) → Same (at s b).rows (value_rows k its)
        → Same (general_rows op (at s looped).rows (at s a).rows (at s b).rows) (value_rows (λ i. BoolItem (cond (some_pair op (h i) (k i)) true false) ∷ []) its)
    stand its h k asc sl sa sb = truth_stands true (λ i. some_pair op (h i) (k i)) its _ _ asc sl (marks_pass is_true_outcome op h k its (at s a).rows (at s b).rows asc sa sb)

    few : (its : List Iter) (h k : Iter → List Cell) → Ascends (λ i. i.number) 0 its → Same (at s looped).rows (loop_rows its) → Same (at s a).rows (value_rows h its) → Same (at s b).rows (value_rows k its)
        → length (general_rows op (at s looped).rows (at s a).rows (at s b).rows) ≤ length (at s looped).rows + length (at s a).rows + length (at s b).rows
    few its h k asc sl sa sb =
        let x = same-length (stand its h k asc sl sa sb) ∙ size_cells (λ i. BoolItem (cond (some_pair op (h i) (k i)) true false) ∷ []) its in
        let y = same-length sl ∙ size_loop its ∙ length-total its in
        omega arith
