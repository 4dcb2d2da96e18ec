use Rattle.std.proofs.Common.{◌≡◌, ◌≤◌, ◌++◌, drop, map}
use Rattle.std.specs.Ordering.{is_eq}
use Rattle.plan_dag.specs.Rows.{num}
use Rattle.table_ops.specs.Held.{kept}
use Rattle.table_ops.specs.Sorting.{run_from, places_cmp}
use Rattle.table_ops.proofs.numbering.run_numbers.Given as goal

abbrev pub invariant-loop-place : goal.invariant-loop-place
invariant-loop-place l =
    (l.out.items ++ map (num kept) (run_from (λ a b. is_eq (places_cmp l.pool (map (λ s. s.now) l.parts) l.part a b)) l.last l.number (drop l.place-index l.order))
    ≡ map (num kept) (run_from (λ a b. is_eq (places_cmp l.pool (map (λ s. s.now) l.parts) l.part a b)) 0 0 l.order))
    × (l.number ≤ l.place-index)
