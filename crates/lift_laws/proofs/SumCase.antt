-- Calls of `sum` of two arguments, from the rows of their operators.
use Rattle.std.proofs.Common.{◌≡◌, ℕ, ◌+◌, ◌≤◌, Bool, true, false, cond, not, List, [], ◌∷◌, length, map, refl, sym, ap, ◌∙◌, subst, arith, Option, Some, None}
use Rattle.std.specs.List.{filter}
use Rattle.std.proofs.Math.Nat.{max-le}
use Rattle.std.proofs.lemmas.Bool.{le-ltb}
use Rattle.xq_base.specs.declared.code.Code.TheVariants as c
use Rattle.xq_base.specs.declared.fun.Fun.TheVariants as f
use Rattle.xq_base.specs.Answers.{Answer, Value, Fault as Refused, check_rank, with_value, both_of}
use Rattle.xq_base.specs.Atoms.{Atom}
use Rattle.xq_base.specs.Comparisons.{at_most_one}
use Rattle.xq_base.specs.Aggregates.{sum_or}
use Rattle.doc_table.specs.Values.{Items, items_of, item_of_atom, data_of, atomized}
use Rattle.doc_table.specs.NodeRules.{Docs}
use Rattle.doc_table.specs.Functions.{sum_with}
use Rattle.plan_dag.specs.declared.op.OpId.{OpId}
use Rattle.plan_dag.specs.declared.check.Check.{Check}
use Rattle.plan_dag.specs.Cells.{given}
use Rattle.plan_dag.specs.ItemRules.{Cell, outcome_of}
use Rattle.core_meaning.specs.Expr.{Site, Apply}
use Rattle.core_meaning.specs.Meaning.{value_in}
use Rattle.lift_laws.specs.Sums.{AllOf, Ascends, Same}
use Rattle.lift_laws.specs.Iterations.{Row, Iter, item_rows, value_rows, loop_rows}
use Rattle.lift_laws.specs.Bulk.{list_of}
use Rattle.lift_laws.specs.States.{State, at, Makes, three}
use Rattle.lift_laws.specs.Shapes.{bare, less, any_rows, restrict_rows}
use Rattle.lift_laws.specs.Stages.{Stages}
use Rattle.lift_laws.specs.Aggregates.{sorted_rows, Totals, agg_of, agg_codes, grouped_rows, sum_or_rows, sum_or_marks, sum_or_most}
use Rattle.lift_laws.specs.Lifting.{CallLifts}
use Rattle.lift_laws.proofs.Multi.{same-of, same-trans, same-length, length-total, total-keep, total-sum}
use Rattle.lift_laws.proofs.Picks.{all_mono, flat-all, map-map}
use Rattle.lift_laws.proofs.Sizes.{map_length, size_cells, size_loop, total_most}
use Rattle.lift_laws.proofs.Simple.{restrict_stands, either_stands}
use Rattle.lift_laws.proofs.Marks.{some, unmarked_stands, fault_in}
use Rattle.lift_laws.proofs.Operands.{has_two, marks_any, marks_second}
use Rattle.lift_laws.proofs.FunctionCases.{some_items}
use Rattle.lift_laws.proofs.Stagings.{stages_two}
use Rattle.lift_laws.proofs.PairCase.{shown}
use Rattle.lift_laws.proofs.ConcatCase.{given_few}
use Rattle.lift_laws.proofs.DataCase.{as_atom, data_stands}
use Rattle.lift_laws.proofs.AggregateCase.{answer, whole_is, one_most, tests, marks_all, front_at, ranked, dynamic, agg_first, given_stands, sorted_few, grouped_few}

abbrev sum_or_answer : Items → Items → Answer Items
sum_or_answer us vs = with_value items_of (sum_with (data_of us) (data_of vs))

-- of both judgements, where the first is that of at most one item
abbrev judged : Answer (Option Atom) → Answer (List Atom) → Answer Items
judged x y = with_value items_of (with_value (λ (p : Option Atom × List Atom). p.1) (both_of x y))

-- the total doesn't ask what there is of none
total_fault : (us : Items) (bs : List Atom) → fault_in (sum_or bs (data_of us)) ≡ fault_in (answer Totals us)
total_fault [] bs = refl
total_fault (u ∷ us) bs = go (sum_or bs (data_of (u ∷ us)))
  where
    go : (x : Answer (List Atom)) → fault_in x ≡ fault_in (with_value items_of x)
    go (Value as') = refl
    go (Refused d) = refl

sum_fault : (us vs : Items) → fault_in (sum_or_answer us vs) ≡ cond (has_two vs) (Some c.XPTY0004) (fault_in (answer Totals us))
sum_fault us [] = go (sum_or [] (data_of us)) ∙ total_fault us []
  where
    go : (y : Answer (List Atom)) → fault_in (judged (Value None) y) ≡ fault_in y
    go (Value as') = refl
    go (Refused d) = refl
sum_fault us (v ∷ []) = go (sum_or (data_of (v ∷ [])) (data_of us)) ∙ total_fault us (data_of (v ∷ []))
  where
    go : (y : Answer (List Atom)) → fault_in (judged (Value (Some (atomized v))) y) ≡ fault_in y
    go (Value as') = refl
    go (Refused d) = refl
sum_fault us (v ∷ w ∷ vs) = go (sum_or (data_of (v ∷ w ∷ vs)) (data_of us))
  where
    go : (y : Answer (List Atom)) → fault_in (judged (Refused c.XPTY0004) y) ≡ Some c.XPTY0004
    go (Value as') = refl
    go (Refused d) = ap (λ b. Some (cond b d c.XPTY0004)) (le-ltb (check_rank d) (check_rank c.XPTY0004) (omega arith))

-- the values where nothing fails
calm_value : (x : Answer (Option Atom)) (y : Answer (List Atom)) → fault_in (judged x y) ≡ None → list_of (value_in (judged x y)) ≡ list_of (value_in (with_value items_of y))
calm_value (Value o) (Value as') e = refl
calm_value (Value o) (Refused d) e = refl
calm_value (Refused d) (Value as') e = cc
calm_value (Refused d) (Refused k) e = refl

sum_value : (us vs : Items) → fault_in (sum_or_answer us vs) ≡ None → cond (some us) (front_at Totals us) (map as_atom vs) ≡ list_of (value_in (sum_or_answer us vs))
sum_value [] vs e = sym (map-map item_of_atom atomized vs) ∙ sym (calm_value (at_most_one (data_of vs)) (sum_or (data_of vs) []) e)
sum_value (u ∷ us) vs e =
    ap (λ b. cond b (cond b (given (bare.whole (agg_of Totals) (u ∷ us))) []) (map as_atom vs)) (sym (some_items (u ∷ us)))
    ∙ ap given (whole_is Totals (u ∷ us)) ∙ shown (answer Totals (u ∷ us)) (one_most Totals (u ∷ us))
    ∙ sym (calm_value (at_most_one (data_of vs)) (sum_or (data_of vs) (data_of (u ∷ us))) e)

module _ (its : List Iter) (h k : Iter → List Cell) (l a b : List Row) (asc : Ascends (λ i. i.number) 0 its) (sl : Same l (loop_rows its)) (sa : Same a (value_rows h its)) (sb : Same b (value_rows k its)) where
  abbrev rest : Iter → Bool
  rest i = not (some (h i))

  rest_stands : Same (restrict_rows (less l (any_rows a)) b) (value_rows k (filter rest its))
  rest_stands = restrict_stands rest k its _ b asc (unmarked_stands (λ i. some (h i)) its l _ sl (marks_any h its a asc sa)) sb

  abbrev value_at : Iter → List Cell
  value_at i = cond (some (h i)) (front_at Totals (h i)) (map as_atom (k i))

  both_stand : Same (sum_or_rows l a b) (value_rows value_at its)
  both_stand = either_stands (λ i. some (h i)) (λ i. front_at Totals (h i)) (λ i. map as_atom (k i)) its _ _ (given_stands Totals h its l a asc sl sa) (data_stands k (filter rest its) _ rest_stands)

  sum_stands : AllOf (λ i. fault_in (sum_or_answer (h i) (k i)) ≡ None) its → Same (sum_or_rows l a b) (value_rows (λ i. list_of (value_in (sum_or_answer (h i) (k i)))) its)
  sum_stands calm = same-trans both_stand (same-of (flat-all _ _ its (all_mono _ _ (λ i (e : fault_in (sum_or_answer (h i) (k i)) ≡ None). ap (item_rows i.number 1) (sum_value (h i) (k i) e)) its calm)))

  few : AllOf (λ (j : List Row). length j ≤ length l + length a + length b) (sorted_rows a ∷ grouped_rows Totals l (sorted_rows a) ∷ restrict_rows (less l (any_rows a)) b ∷ sum_or_rows l a b ∷ [])
  few =
      let x = sorted_few (agg_of Totals) h its l a asc sl sa in
      let y = grouped_few (agg_of Totals) h its l a asc sl sa in
      let z = same-length sl ∙ size_loop its in
      let t = length-total its in
      let n = same-length sb ∙ size_cells k its in
      let r = same-length rest_stands ∙ size_cells k (filter rest its) ∙ total-keep (λ i. length (k i)) rest its in
      let q = total_most (λ i. cond (rest i) (length (k i)) 0) (λ i. length (k i)) its (λ i. no_more (rest i) (length (k i))) in
      let v = same-length both_stand ∙ size_cells value_at its in
      let w = total_most (λ i. length (value_at i)) (λ i. 1 + length (k i)) its (λ i. one_more (h i) (k i)) in
      let u = total-sum (λ (i : Iter). 1) (λ i. length (k i)) its in
      let one : length (sorted_rows a) ≤ length l + length a + length b = omega arith in
      let two : length (grouped_rows Totals l (sorted_rows a)) ≤ length l + length a + length b = omega arith in
      let three' : length (restrict_rows (less l (any_rows a)) b) ≤ length l + length a + length b = omega arith in
      let four : length (sum_or_rows l a b) ≤ length l + length a + length b = omega arith in
      (one, (two, (three', (four, tt))))
    where
      no_more : (d : Bool) (n : ℕ) → cond d n 0 ≤ n
      no_more true n = omega arith
      no_more false n = omega arith

      one_given : (us : Items) → length (given (bare.whole (agg_of Totals) us)) ≤ 1
      one_given us = subst (λ x. length (given x) ≤ 1) (sym (whole_is Totals us)) (given_few (outcome_of (answer Totals us)))

      either_few : (d : Bool) (us vs : Items) → length us ≤ 1 → length (cond d (cond d us []) (map as_atom vs)) ≤ 1 + length vs
      either_few true us vs q = omega arith
      either_few false us vs q = let m = map_length as_atom vs in omega arith

      one_more : (us vs : Items) → length (cond (some us) (front_at Totals us) (map as_atom vs)) ≤ 1 + length vs
      one_more us vs = either_few (some us) (given (bare.whole (agg_of Totals) us)) vs (one_given us)

pub sum_or_call : (docs : Docs) (s s1 s2 : State) (site : Site) (looped a b t : OpId) (cs : List Check)
    → Makes s s1 t three (sum_or_rows (at s looped).rows (at s a).rows (at s b).rows) (sum_or_most (at s looped).rows (at s a).rows (at s b).rows)
    → Stages site (sum_or_most (at s looped).rows (at s a).rows (at s b).rows) s1 s2 (at s looped).rows (sum_or_marks (at s a).rows (at s b).rows) cs
    → CallLifts docs s s2 site (Apply f.Sum) looped (a ∷ b ∷ []) t
sum_or_call docs s s1 s2 site looped a b t cs m st =
    stages_two docs s s1 s2 site (Apply f.Sum) looped a b t cs (sum_or_marks (at s a).rows (at s b).rows)
    (sorted_rows (at s a).rows ∷ grouped_rows Totals (at s looped).rows (sorted_rows (at s a).rows) ∷ restrict_rows (less (at s looped).rows (any_rows (at s a).rows)) (at s b).rows ∷ sum_or_rows (at s looped).rows (at s a).rows (at s b).rows ∷ [])
    (λ h k. (λ i. has_two (k i)) ∷ tests Totals (agg_codes Totals) h) refl
    ((omega arith, (omega arith, (omega arith, tt))), ranked Totals (at s a).rows) (refl, dynamic Totals (at s a).rows) _ _ _ m st
    (λ N e w. let z : sum_or_most (at s looped).rows (at s a).rows (at s b).rows ≤ N = max-le e (max-le w.0 (max-le w.1.0 (max-le w.1.1.0 w.1.1.1.0))) in (z, z))
    sum_or_answer (λ h k i. refl)
    (λ h k i. sum_fault (h i) (k i) ∙ ap (cond (has_two (k i)) (Some c.XPTY0004)) (agg_first Totals (at s a).rows h i))
    (λ its h k asc sl sa sb. (marks_second k its (at s b).rows asc sb, marks_all Totals (agg_codes Totals) h its (at s a).rows asc sa))
    (λ its h k asc sl sa sb. few its h k (at s looped).rows (at s a).rows (at s b).rows asc sl sa sb)
    (λ its h k asc sl sa sb tree ra rb calm. sum_stands its h k (at s looped).rows (at s a).rows (at s b).rows asc sl sa sb calm)
