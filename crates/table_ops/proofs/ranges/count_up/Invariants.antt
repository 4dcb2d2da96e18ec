use Rattle.std.proofs.Common.{◌≡◌, ◌≤ℤ◌, ◌++◌, length, Some, IfSome}
use Rattle.plan_dag.specs.Rows.{ints_between}
use Rattle.table_ops.specs.Ranges.{counted}
use Rattle.table_ops.proofs.ranges.count_up.Given as goal

abbrev pub invariant-loop-next : goal.invariant-loop-next
invariant-loop-next l = (l.out.items ++ counted l.place (ints_between l.next (Some l.high)) ≡ l.initial.out.items ++ counted l.place (ints_between (Some l.low) (Some l.high))) × IfSome l.next (λ z. z ≤ℤ l.high)

abbrev pub decreases-loop-next : goal.decreases-loop-next
decreases-loop-next l = length (ints_between l.next (Some l.high))
