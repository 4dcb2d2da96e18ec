use Rattle.std.proofs.Common.{◌≡◌, take}
use Rattle.table_ops.specs.Columns.{cells_in}
use Rattle.table_ops.proofs.columns.shared.Given as goal

abbrev pub invariant-loop-column : goal.invariant-loop-column
invariant-loop-column l = cells_in l.out.items ≡ cells_in (take l.column-index l.columns)
