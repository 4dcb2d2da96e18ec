use Rattle.std.proofs.Common.{◌≡◌, take, map}
use Rattle.plan_dag.specs.Rows.{num}
use Rattle.table_ops.specs.Held.{kept}
use Rattle.table_ops.proofs.grouping.integers.Given as goal

abbrev pub invariant-loop-number : goal.invariant-loop-number
invariant-loop-number l = l.out.items ≡ map (num kept) (take l.number-index l.numbers)
