use Rattle.std.proofs.Common.{◌≡◌, ◌++◌, drop}
use Rattle.table_ops.specs.Ranges.{counted_from}
use Rattle.table_ops.proofs.ranges.integers_of.Given as goal

abbrev pub invariant-loop-place : goal.invariant-loop-place
invariant-loop-place l = l.out.items ++ counted_from l.place (drop l.place l.low) (drop l.place l.high) ≡ counted_from 0 l.low l.high
