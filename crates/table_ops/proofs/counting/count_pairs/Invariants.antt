use Rattle.std.proofs.Common.{◌≡◌, ◌+◌, ◌*◌, ◌≤◌, drop}
use Rattle.table_ops.specs.Counts.{pairs_count}
use Rattle.table_ops.proofs.counting.count_pairs.Given as goal

abbrev pub invariant-loop-place : goal.invariant-loop-place
invariant-loop-place l = (l.total + pairs_count l.index (drop l.place l.cells) ≡ pairs_count l.index l.cells) × (l.total ≤ 4294967296 * l.place)
