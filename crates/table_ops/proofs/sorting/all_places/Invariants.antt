use Rattle.std.proofs.Common.{◌≡◌}
use Rattle.table_ops.specs.Columns.{numbers_from}
use Rattle.table_ops.proofs.sorting.all_places.Given as goal

abbrev pub invariant-loop-place : goal.invariant-loop-place
invariant-loop-place l = l.out.items ≡ numbers_from 0 l.place
