use Rattle.std.proofs.Common.{◌≡◌, ◌+◌, ◌*◌, ◌≤◌, drop}
use Rattle.table_ops.specs.Counts.{ints_count}
use Rattle.table_ops.proofs.counting.count_ints.Given as goal

abbrev pub invariant-loop-place : goal.invariant-loop-place
invariant-loop-place l = (l.total + ints_count (drop l.place l.lows) (drop l.place l.highs) ≡ ints_count l.lows l.highs) × (l.total ≤ 18446744073709551616 * l.place)
