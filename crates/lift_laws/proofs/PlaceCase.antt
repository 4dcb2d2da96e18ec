-- Calls of `remove` and of `subsequence` from a place on, from the rows of their operators: each place is compared with the one
-- that is asked for.
use Rattle.std.proofs.Common.{◌≡◌, ℕ, ◌+◌, ◌≤◌, Bool, true, false, cond, not, ◌||◌, List, [], ◌∷◌, length, map, refl, sym, ap, ◌∙◌, arith, Option, Some, None, nat_lt, nat_le, true≢false, ℤ, pos, negsuc, int_le, int_lt}
use Rattle.std.specs.List.{filter}
use Rattle.std.proofs.Math.Nat.{max-le}
use Rattle.std.proofs.lemmas.Bool.{ltb-true, ltb-false, leb-true, le-leb}
use Rattle.xq_base.specs.declared.fun.Fun.{Fun}
use Rattle.xq_base.specs.declared.fun.Fun.TheVariants as f
use Rattle.xq_base.specs.declared.fun.CompOp.{CompOp}
use Rattle.xq_base.specs.declared.fun.CompOp.TheVariants as o
use Rattle.xq_base.specs.Answers.{Answer, Value, Fault as Refused, then_rule, with_value}
use Rattle.xq_base.specs.Texts.{integer_in}
use Rattle.xq_base.specs.Words.{is_selected, at_places}
use Rattle.xq_base.specs.Atoms.{Atom, IntAtom, TextAtom, UntypedAtom, BoolAtom, spelled}
use Rattle.xq_base.specs.Arithmetic.{or_no_cast, number_of}
use Rattle.xq_base.specs.Comparisons.{int_eq, decided, compared, truth, general_pair, either_of, general_comparison}
use Rattle.xq_base.specs.TextRules.{one_number}
use Rattle.doc_table.specs.Values.{Items, items_of, data_of, atomized}
use Rattle.doc_table.specs.NodeRules.{Docs}
use Rattle.doc_table.specs.Functions.{fun_answer}
use Rattle.plan_dag.specs.declared.op.OpId.{OpId}
use Rattle.plan_dag.specs.declared.check.Check.{Check}
use Rattle.plan_dag.specs.ItemRules.{Cell, outcome_of}
use Rattle.core_meaning.specs.Expr.{Site, Apply}
use Rattle.core_meaning.specs.Meaning.{value_in}
use Rattle.lift_laws.specs.Sums.{AllOf, Ascends, Same}
use Rattle.lift_laws.specs.Iterations.{Row, Iter, item_rows, value_rows, loop_rows}
use Rattle.lift_laws.specs.Bulk.{list_of, own_walks}
use Rattle.lift_laws.specs.States.{State, at, Makes, three}
use Rattle.lift_laws.specs.Shapes.{restrict_rows}
use Rattle.lift_laws.specs.Stages.{Stages}
use Rattle.lift_laws.specs.Readings.{OneNumber}
use Rattle.lift_laws.specs.Places.{OfPlaces, passing_rows, place_marks, place_loop, beside_place, removed_rows, from_rows, place_most}
use Rattle.lift_laws.specs.Lifting.{CallLifts}
use Rattle.lift_laws.proofs.Multi.{same-of, same-trans}
use Rattle.lift_laws.proofs.Picks.{all_each, flat-all}
use Rattle.lift_laws.proofs.Marks.{fault_in}
use Rattle.lift_laws.proofs.Cleared.{none_of, AllMark}
use Rattle.lift_laws.proofs.Stagings.{first_coded, first_mark, marked_rows, stages_two}
use Rattle.lift_laws.proofs.PairRows.{few_sided_left}
use Rattle.lift_laws.proofs.ReadingCase.{reading_fault, with_fault, operand_tests, operands_mark, operands_ranked, operands_dynamic, calm_stands, calm, calm_none, none_first, Single, where_calm}
use Rattle.lift_laws.proofs.Renumber.{items_in}
use Rattle.lift_laws.proofs.PlaceRows.{chosen, holds_in, told, passes, chosen_in, passing_stand, few_beside}

-- a place that is asked for is one number
abbrev asked : Items → Answer ℤ
asked vs = one_number (data_of vs)

pub record PlaceIn (vs : Items) : Type 0 where
  pub only : Single vs
  pub number : ℤ
  pub number_is : number_of (atomized only.0) ≡ Value number
  pub asked_is : one_number (data_of vs) ≡ Value number

number_there : (x : Answer ℤ) → fault_in x ≡ None → (z : ℤ) × (x ≡ Value z)
number_there (Value z) e = (z, refl)
number_there (Refused d) e = cc

pub place_in : (vs : Items) → fault_in (one_number (data_of vs)) ≡ None → PlaceIn vs
place_in [] e = cc
place_in (v ∷ []) e = let n = number_there (number_of (atomized v)) e in record { only = (v, refl); number = n.0; number_is = n.1; asked_is = n.1 }
place_in (v ∷ w ∷ vs) e = cc

-- a number beside an item that is read as one
abbrev or_else : ℤ → Answer ℤ → ℤ
or_else y (Value z) = z
or_else y (Refused d) = y

pair_decided : (op : CompOp) (y : ℤ) (a : Atom) (z : ℤ) → number_of a ≡ Value z → general_pair op (IntAtom y) a ≡ Value (decided op (int_eq y z) (int_lt y z))
pair_decided op y (IntAtom x) z e = ap (λ n. Value (decided op (int_eq y n) (int_lt y n))) (ap (or_else y) e)
pair_decided op y (UntypedAtom t) z e = go (integer_in t) e
  where
    go : (n : Option ℤ) → or_no_cast n ≡ Value z → then_rule (spelled IntAtom n) (λ a. compared op (IntAtom y) a) ≡ Value (decided op (int_eq y z) (int_lt y z))
    go None q = cc
    go (Some x) q = ap (λ n. Value (decided op (int_eq y n) (int_lt y n))) (ap (or_else y) q)
pair_decided op y (TextAtom t) z e = cc
pair_decided op y (BoolAtom b) z e = cc

or_no : (b : Bool) → (b || false) ≡ b
or_no true = refl
or_no false = refl

pub place_passes : (op : CompOp) (w : Cell) (z : ℤ) → number_of (atomized w) ≡ Value z → (n : ℕ) → holds_in (outcome_of (with_value items_of (general_comparison op (IntAtom (pos n) ∷ []) (atomized w ∷ [])))) ≡ decided op (int_eq (pos n) z) (int_lt (pos n) z)
place_passes op w z e n =
    ap (λ x. holds_in (outcome_of (with_value items_of (with_value truth (either_of x (Value false)))))) (pair_decided op (pos n) (atomized w) z e) ∙ or_no (decided op (int_eq (pos n) z) (int_lt (pos n) z))

-- the items that a test of places keeps
pub chosen_places : (test : ℕ → Bool) (pass : ℕ → Cell → Bool) → ((n : ℕ) (v : Cell) → pass n v ≡ test n) → (n : ℕ) (vs : Items) → items_in (chosen pass (told OfPlaces) n vs) ≡ at_places test n vs
chosen_places test pass same n [] = refl
chosen_places test pass same n (v ∷ vs) =
    let rest = chosen_places test pass same (n + 1) vs in
    let more = chosen pass (told OfPlaces) (n + 1) vs in
    ap (λ b. items_in (cond b ((n, v) ∷ more) more)) (same n v)
    ∙ elim (test n) as (λ b. items_in (cond b ((n, v) ∷ more) more) ≡ cond b (v ∷ at_places test (n + 1) vs) (at_places test (n + 1) vs)) [ true ↦ ap (λ l. v ∷ l) rest | false ↦ rest ]

pub same_places : (p q : ℕ → Bool) → ((n : ℕ) → p n ≡ q n) → (n : ℕ) (vs : Items) → at_places p n vs ≡ at_places q n vs
same_places p q same n [] = refl
same_places p q same n (v ∷ vs) =
    ap (λ l. cond (p n) (v ∷ l) l) (same_places p q same (n + 1) vs) ∙ ap (λ b. cond b (v ∷ at_places q (n + 1) vs) (at_places q (n + 1) vs)) (same n)

-- where an operator's comparison decides so, the items that it keeps are those at the places that pass
pub kept_items : (op : CompOp) (g : Fun) → ((w : Cell) (n : ℕ) (v : Cell) → passes OfPlaces g w n v ≡ holds_in (outcome_of (with_value items_of (general_comparison op (IntAtom (pos n) ∷ []) (atomized w ∷ [])))))
    → (us vs : Items) (p : PlaceIn vs) → items_in (chosen_in OfPlaces g vs us) ≡ at_places (λ n. decided op (int_eq (pos n) p.number) (int_lt (pos n) p.number)) 1 us
kept_items op g is us vs p =
    ap (λ x. items_in (chosen_in OfPlaces g x us)) p.only.1
    ∙ chosen_places (λ n. decided op (int_eq (pos n) p.number) (int_lt (pos n) p.number)) (passes OfPlaces g p.only.0) (λ n v. is p.only.0 n v ∙ place_passes op p.only.0 p.number p.number_is n) 1 us

-- the checks of a place
abbrev pub place_tests : List Row → (Iter → List Cell) → List (Iter → Bool)
place_tests b k = operand_tests ((OneNumber, b) ∷ []) (k ∷ [])

pub place_fault : (l b : List Row) (k : Iter → List Cell) (i : Iter) (G : ℤ → Items) → fault_in (with_value G (one_number (data_of (k i)))) ≡ first_coded (map first_mark (place_marks l b)) (place_tests b k) i
place_fault l b k i G = with_fault G (one_number (data_of (k i))) ∙ reading_fault OneNumber k i

module _ (its : List Iter) (k : Iter → List Cell) (l b : List Row) (asc : Ascends (λ i. i.number) 0 its) (sl : Same l (loop_rows its)) (sb : Same b (value_rows k its)) where
  pub place_marked : AllMark (marked_rows (place_marks l b)) (place_tests b k) its
  place_marked = operands_mark its l asc sl ((OneNumber, b) ∷ []) (k ∷ []) (sb, tt)

  -- the iterations with a place
  abbrev pub has_place : Iter → Bool
  has_place i = none_of (place_tests b k) i

  pub has_place_is : (G : ℤ → Items) (i : Iter) → has_place i ≡ calm (fault_in (with_value G (one_number (data_of (k i)))))
  has_place_is G i = none_first (place_marks l b) (place_tests b k) its i place_marked ∙ ap calm (sym (place_fault l b k i G))

  pub place_there : (i : Iter) → has_place i ≡ true → PlaceIn (k i)
  place_there i e = place_in (k i) (sym (with_fault (λ z. []) (one_number (data_of (k i)))) ∙ calm_none (fault_in (with_value (λ z. []) (one_number (data_of (k i))))) (sym (has_place_is (λ z. []) i) ∙ e))

  pub place_loop_stands : Same (place_loop l b) (loop_rows (filter has_place its))
  place_loop_stands = calm_stands its l asc sl (place_marks l b) (place_tests b k) place_marked

  module _ (h : Iter → List Cell) (a : List Row) (sa : Same a (value_rows h its)) where
    -- the items of each iteration that a comparison with the place keeps
    pub by_place_stand : (g : Fun) → Same (passing_rows OfPlaces g (beside_place l a b)) (value_rows (λ i. items_in (cond (has_place i) (chosen_in OfPlaces g (k i) (h i)) [])) its)
    by_place_stand g = passing_stand has_place h k its (place_loop l b) a b asc place_loop_stands sa sb (λ i e. (place_there i e).only) OfPlaces g

    pub few_by_place : AllOf (λ (j : List Row). length j ≤ length a) (restrict_rows (place_loop l b) a ∷ beside_place l a b ∷ [])
    few_by_place = (few_sided_left has_place h k its (place_loop l b) a b asc place_loop_stands sa sb, (few_beside has_place h k its (place_loop l b) a b asc place_loop_stands sa sb (λ i e. (place_there i e).only), tt))

pub only_items : (b : Bool) (ps : List (ℕ × Cell)) → items_in (cond b ps []) ≡ cond b (items_in ps) []
only_items true ps = refl
only_items false ps = refl

-- a call of a function that keeps the items whose places compare so
module _ (docs : Docs) (s s1 s2 : State) (site : Site) (fun g : Fun) (op : CompOp) (test : ℤ → ℕ → Bool) (looped a b t : OpId) (cs : List Check)
    (no_step : own_walks site (Apply fun) ≡ []) (rule_is : (us vs : Items) → fun_answer docs fun (us ∷ vs ∷ []) ≡ with_value (λ z. at_places (test z) 1 us) (one_number (data_of vs)))
    (compares : (w : Cell) (n : ℕ) (v : Cell) → passes OfPlaces g w n v ≡ holds_in (outcome_of (with_value items_of (general_comparison op (IntAtom (pos n) ∷ []) (atomized w ∷ [])))))
    (tests : (z : ℤ) (n : ℕ) → decided op (int_eq (pos n) z) (int_lt (pos n) z) ≡ test z n)
    (m : Makes s s1 t three (passing_rows OfPlaces g (beside_place (at s looped).rows (at s a).rows (at s b).rows)) (place_most (at s looped).rows (at s a).rows (at s b).rows))
    (st : Stages site (place_most (at s looped).rows (at s a).rows (at s b).rows) s1 s2 (at s looped).rows (place_marks (at s looped).rows (at s b).rows) cs) where
  abbrev answer : Items → Items → Answer Items
  answer us vs = with_value (λ z. at_places (test z) 1 us) (one_number (data_of vs))

  value_here : (us vs : Items) → PlaceIn vs → items_in (chosen_in OfPlaces g vs us) ≡ list_of (value_in (answer us vs))
  value_here us vs p =
      kept_items op g compares us vs p ∙ same_places _ _ (tests p.number) 1 us
      ∙ ap (λ x. list_of (value_in (with_value (λ z. at_places (test z) 1 us) x))) (sym p.asked_is)

  stand : (its : List Iter) (h k : Iter → List Cell) (l a' b' : List Row) → Ascends (λ i. i.number) 0 its → Same l (loop_rows its) → Same a' (value_rows h its) → Same b' (value_rows k its)
      → Same (passing_rows OfPlaces g (beside_place l a' b')) (value_rows (λ i. list_of (value_in (answer (h i) (k i)))) its)
  stand its h k l a' b' asc sl sa sb =
      let F = λ (i : Iter) (z : ℤ). at_places (test z) 1 (h i) in
      same-trans (by_place_stand its k l b' asc sl sb h a' sa g)
      (same-of (flat-all _ _ its (all_each _ (λ i.
      ap (item_rows i.number 1) (only_items (has_place its k l b' asc sl sb i) (chosen_in OfPlaces g (k i) (h i))
      ∙ where_calm (answer (h i) (k i)) (has_place its k l b' asc sl sb i) (items_in (chosen_in OfPlaces g (k i) (h i))) (has_place_is its k l b' asc sl sb (F i) i)
      (λ e. value_here (h i) (k i) (place_in (k i) (sym (with_fault (F i) (one_number (data_of (k i)))) ∙ e))))) its)))

  pub by_place_call : CallLifts docs s s2 site (Apply fun) looped (a ∷ b ∷ []) t
  by_place_call =
      stages_two docs s s1 s2 site (Apply fun) looped a b t cs (place_marks (at s looped).rows (at s b).rows)
      (restrict_rows (place_loop (at s looped).rows (at s b).rows) (at s a).rows ∷ beside_place (at s looped).rows (at s a).rows (at s b).rows ∷ [])
      (λ h k. place_tests (at s b).rows k) no_step (operands_ranked (at s looped).rows ((OneNumber, (at s b).rows) ∷ [])) (operands_dynamic (at s looped).rows ((OneNumber, (at s b).rows) ∷ [])) _ _ _ m st
      (λ N e w.
      let x : length (at s looped).rows ≤ N = omega arith in
      let y : length (at s a).rows ≤ N = omega arith in
      let z : length (at s b).rows ≤ N = omega arith in
      let p : place_most (at s looped).rows (at s a).rows (at s b).rows ≤ N = max-le (max-le x y) (max-le z (max-le w.0 w.1.0)) in
      (p, p))
      answer (λ h k i. rule_is (h i) (k i))
      (λ h k i. place_fault (at s looped).rows (at s b).rows k i (λ z. at_places (test z) 1 (h i)))
      (λ its h k asc sl sa sb. place_marked its k (at s looped).rows (at s b).rows asc sl sb)
      (λ its h k asc sl sa sb.
      let w = few_by_place its k (at s looped).rows (at s b).rows asc sl sb h (at s a).rows sa in
      let x = w.0 in
      let y = w.1.0 in
      (omega arith, (omega arith, tt)))
      (λ its h k asc sl sa sb tree ra rb none. stand its h k (at s looped).rows (at s a).rows (at s b).rows asc sl sa sb)

swapped : (x y : Bool) → not (not (x || y)) ≡ not (not (y || x))
swapped true true = refl
swapped true false = refl
swapped false true = refl
swapped false false = refl

pub remove_call : (docs : Docs) (s s1 s2 : State) (site : Site) (looped a b t : OpId) (cs : List Check)
    → Makes s s1 t three (removed_rows (at s looped).rows (at s a).rows (at s b).rows) (place_most (at s looped).rows (at s a).rows (at s b).rows)
    → Stages site (place_most (at s looped).rows (at s a).rows (at s b).rows) s1 s2 (at s looped).rows (place_marks (at s looped).rows (at s b).rows) cs
    → CallLifts docs s s2 site (Apply f.Remove) looped (a ∷ b ∷ []) t
remove_call docs s s1 s2 site looped a b t cs m st =
    by_place_call docs s s1 s2 site f.Remove f.GeneralNe o.Ne (λ z n. not (int_eq z (pos n))) looped a b t cs refl (λ us vs. refl) (λ w n v. refl)
    (λ z n. swapped (int_lt (pos n) z) (int_lt z (pos n))) m st

pub not_less : (z : ℤ) (n : ℕ) → not (int_lt (pos n) z) ≡ int_le z (pos n)
not_less (negsuc k) n = refl
not_less (pos k) n = at (nat_lt n k) refl (nat_le k n) refl
  where
    at : (a : Bool) → nat_lt n k ≡ a → (b : Bool) → nat_le k n ≡ b → not (nat_lt n k) ≡ nat_le k n
    at true e true g = let l = ltb-true n k e in let m = leb-true k n g in absurd (omega arith)
    at true e false g = ap not e ∙ sym g
    at false e true g = ap not e ∙ sym g
    at false e false g = let l = ltb-false n k e in let m = le-leb k n (omega arith) in absurd (true≢false (sym m ∙ g))

pub from_call : (docs : Docs) (s s1 s2 : State) (site : Site) (looped a b t : OpId) (cs : List Check)
    → Makes s s1 t three (from_rows (at s looped).rows (at s a).rows (at s b).rows) (place_most (at s looped).rows (at s a).rows (at s b).rows)
    → Stages site (place_most (at s looped).rows (at s a).rows (at s b).rows) s1 s2 (at s looped).rows (place_marks (at s looped).rows (at s b).rows) cs
    → CallLifts docs s s2 site (Apply f.Subsequence) looped (a ∷ b ∷ []) t
from_call docs s s1 s2 site looped a b t cs m st =
    by_place_call docs s s1 s2 site f.Subsequence f.GeneralGe o.Ge (λ z n. is_selected z None n) looped a b t cs refl (λ us vs. refl) (λ w n v. refl) not_less m st
