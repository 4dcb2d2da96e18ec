-- Calls of `index-of`, from the rows of their operators: each item is compared with the one that is asked for.
use Rattle.std.proofs.Common.{◌≡◌, ℕ, ◌+◌, ◌≤◌, true, false, cond, not, ◌&&◌, List, [], ◌∷◌, length, refl, sym, ap, ◌∙◌, arith, Some, None, pos, Bool}
use Rattle.std.specs.List.{filter}
use Rattle.std.proofs.Math.Nat.{max-le}
use Rattle.xq_base.specs.declared.code.Code.TheVariants as c
use Rattle.xq_base.specs.declared.fun.Fun.TheVariants as f
use Rattle.xq_base.specs.declared.fun.CompOp.TheVariants as o
use Rattle.xq_base.specs.Answers.{Answer, Value, Fault as Refused, with_value}
use Rattle.xq_base.specs.Atoms.{IntAtom}
use Rattle.xq_base.specs.Comparisons.{truth, value_pair, is_true_answer, same_atom}
use Rattle.xq_base.specs.Aggregates.{places_of, index_of}
use Rattle.doc_table.specs.Values.{Items, items_of, data_of, atomized}
use Rattle.doc_table.specs.NodeRules.{Docs}
use Rattle.plan_dag.specs.declared.op.OpId.{OpId}
use Rattle.plan_dag.specs.declared.check.Check.{Check}
use Rattle.plan_dag.specs.ItemRules.{Cell, outcome_of}
use Rattle.core_meaning.specs.Expr.{Site, Apply}
use Rattle.core_meaning.specs.Meaning.{value_in}
use Rattle.lift_laws.specs.Sums.{AllOf, Ascends, Same}
use Rattle.lift_laws.specs.Iterations.{Row, Iter, num, item_rows, value_rows, loop_rows}
use Rattle.lift_laws.specs.Bulk.{list_of}
use Rattle.lift_laws.specs.States.{State, at, Makes, three}
use Rattle.lift_laws.specs.Shapes.{less, any_rows, second_rows, restrict_rows}
use Rattle.lift_laws.specs.Stages.{Stages}
use Rattle.lift_laws.specs.Pairs.{side_rows}
use Rattle.lift_laws.specs.Places.{OfItems, index_marks, index_loop, index_rows, index_most}
use Rattle.lift_laws.specs.Lifting.{CallLifts}
use Rattle.lift_laws.proofs.Multi.{same-of, same-trans}
use Rattle.lift_laws.proofs.Picks.{all_each, flat-all}
use Rattle.lift_laws.proofs.Marks.{some, fault_in}
use Rattle.lift_laws.proofs.Operands.{has_two, marks_second}
use Rattle.lift_laws.proofs.Cleared.{none_of, AllMark}
use Rattle.lift_laws.proofs.Stagings.{marked_rows, stages_two}
use Rattle.lift_laws.proofs.PairRows.{few_sided_left}
use Rattle.lift_laws.proofs.ConcatCase.{marks_of_some}
use Rattle.lift_laws.proofs.ReadingCase.{marks_absent, calm_stands, calm, calm_none, none_first, Single, where_calm}
use Rattle.lift_laws.proofs.Renumber.{items_in}
use Rattle.lift_laws.proofs.PlaceRows.{chosen, holds_in, told, passes, chosen_in, passing_stand, few_beside}
use Rattle.lift_laws.proofs.PlaceCase.{only_items}

abbrev index_answer : Items → Items → Answer Items
index_answer us vs = with_value items_of (index_of (data_of us) (data_of vs))

-- one item is asked for
abbrev absent_or_two : (Iter → List Cell) → List (Iter → Bool)
absent_or_two k = (λ i. has_two (k i)) ∷ (λ i. not (some (k i))) ∷ []

abbrev index_tests : (Iter → List Cell) → List (Iter → Bool)
index_tests k = (λ i. not (none_of (absent_or_two k) i)) ∷ []

index_fault : (us vs : Items) → fault_in (index_answer us vs) ≡ cond (not (not (has_two vs) && (not (not (some vs)) && true))) (Some c.XPTY0004) None
index_fault us [] = refl
index_fault us (v ∷ []) = refl
index_fault us (v ∷ w ∷ vs) = refl

index_single : (us vs : Items) → fault_in (index_answer us vs) ≡ None → Single vs
index_single us [] e = cc
index_single us (v ∷ []) e = (v, refl)
index_single us (v ∷ w ∷ vs) e = cc

-- a comparison that fails isn't true
holds_same : (x : Answer Bool) → holds_in (outcome_of (with_value items_of (with_value truth x))) ≡ is_true_answer x
holds_same (Value b) = refl
holds_same (Refused d) = refl

index_items : (w : Cell) (n : ℕ) (us : Items) → items_in (chosen (passes OfItems f.Eq w) (told OfItems) n us) ≡ items_of (places_of (atomized w) n (data_of us))
index_items w n [] = refl
index_items w n (u ∷ us) =
    let rest = index_items w (n + 1) us in
    let more = chosen (passes OfItems f.Eq w) (told OfItems) (n + 1) us in
    let later = places_of (atomized w) (n + 1) (data_of us) in
    ap (λ b. items_in (cond b ((n, num n) ∷ more) more)) (holds_same (value_pair o.Eq (atomized u) (atomized w)))
    ∙ elim (same_atom (atomized u) (atomized w)) as (λ b. items_in (cond b ((n, num n) ∷ more) more) ≡ items_of (cond b (IntAtom (pos n) ∷ later) later)) [ true ↦ ap (λ l. num n ∷ l) rest | false ↦ rest ]

index_value : (us vs : Items) → fault_in (index_answer us vs) ≡ None → items_in (chosen_in OfItems f.Eq vs us) ≡ list_of (value_in (index_answer us vs))
index_value us vs e =
    let s = index_single us vs e in
    ap (λ x. items_in (chosen_in OfItems f.Eq x us)) s.1 ∙ index_items s.0 1 us ∙ ap (λ x. list_of (value_in (index_answer us x))) (sym s.1)

module _ (its : List Iter) (h k : Iter → List Cell) (l a b : List Row) (asc : Ascends (λ i. i.number) 0 its) (sl : Same l (loop_rows its)) (sa : Same a (value_rows h its)) (sb : Same b (value_rows k its)) where
  index_marked : AllMark (marked_rows (index_marks l b)) (index_tests k) its
  index_marked = (marks_of_some (second_rows b ∷ less l (any_rows b) ∷ []) (absent_or_two k) its l asc sl (marks_second k its b asc sb, (marks_absent its l asc sl k b sb, tt)), tt)

  abbrev has_one : Iter → Bool
  has_one i = none_of (index_tests k) i

  has_one_is : (i : Iter) → has_one i ≡ calm (fault_in (index_answer (h i) (k i)))
  has_one_is i = none_first (index_marks l b) (index_tests k) its i index_marked ∙ ap calm (sym (index_fault (h i) (k i)))

  one_there : (i : Iter) → has_one i ≡ true → Single (k i)
  one_there i e = index_single (h i) (k i) (calm_none (fault_in (index_answer (h i) (k i))) (sym (has_one_is i) ∙ e))

  loop_left : Same (index_loop l b) (loop_rows (filter has_one its))
  loop_left = calm_stands its l asc sl (index_marks l b) (index_tests k) index_marked

  index_stands : Same (index_rows l a b) (value_rows (λ i. list_of (value_in (index_answer (h i) (k i)))) its)
  index_stands =
      same-trans (passing_stand has_one h k its (index_loop l b) a b asc loop_left sa sb one_there OfItems f.Eq)
      (same-of (flat-all _ _ its (all_each _ (λ i.
      ap (item_rows i.number 1) (only_items (has_one i) (chosen_in OfItems f.Eq (k i) (h i))
      ∙ where_calm (index_answer (h i) (k i)) (has_one i) (items_in (chosen_in OfItems f.Eq (k i) (h i))) (has_one_is i) (index_value (h i) (k i)))) its)))

  index_few : AllOf (λ (j : List Row). length j ≤ length l + length a + length b) (restrict_rows (index_loop l b) a ∷ side_rows (index_loop l b) a b ∷ [])
  index_few =
      let x = few_sided_left has_one h k its (index_loop l b) a b asc loop_left sa sb in
      let y = few_beside has_one h k its (index_loop l b) a b asc loop_left sa sb one_there in
      (omega arith, (omega arith, tt))

pub index_call : (docs : Docs) (s s1 s2 : State) (site : Site) (looped a b t : OpId) (cs : List Check)
    → Makes s s1 t three (index_rows (at s looped).rows (at s a).rows (at s b).rows) (index_most (at s looped).rows (at s a).rows (at s b).rows)
    → Stages site (index_most (at s looped).rows (at s a).rows (at s b).rows) s1 s2 (at s looped).rows (index_marks (at s looped).rows (at s b).rows) cs
    → CallLifts docs s s2 site (Apply f.IndexOf) looped (a ∷ b ∷ []) t
index_call docs s s1 s2 site looped a b t cs m st =
    stages_two docs s s1 s2 site (Apply f.IndexOf) looped a b t cs (index_marks (at s looped).rows (at s b).rows)
    (restrict_rows (index_loop (at s looped).rows (at s b).rows) (at s a).rows ∷ side_rows (index_loop (at s looped).rows (at s b).rows) (at s a).rows (at s b).rows ∷ [])
    (λ h k. index_tests k) refl (tt, tt) (refl, tt) _ _ _ m st
    (λ N e w.
    let x : length (at s looped).rows ≤ N = omega arith in
    let y : length (at s a).rows ≤ N = omega arith in
    let z : length (at s b).rows ≤ N = omega arith in
    let p : index_most (at s looped).rows (at s a).rows (at s b).rows ≤ N = max-le (max-le x y) (max-le z (max-le w.0 w.1.0)) in
    (p, p))
    index_answer (λ h k i. refl)
    (λ h k i. index_fault (h i) (k i))
    (λ its h k asc sl sa sb. index_marked its h k (at s looped).rows (at s a).rows (at s b).rows asc sl sa sb)
    (λ its h k asc sl sa sb. index_few its h k (at s looped).rows (at s a).rows (at s b).rows asc sl sa sb)
    (λ its h k asc sl sa sb tree ra rb none. index_stands its h k (at s looped).rows (at s a).rows (at s b).rows asc sl sa sb)
