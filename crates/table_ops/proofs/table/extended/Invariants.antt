use Rattle.std.proofs.Common.{◌≡◌, ◌++◌, take}
use Rattle.table_ops.proofs.table.extended.Given as goal

abbrev pub invariant-loop-col : goal.invariant-loop-col
invariant-loop-col l = l.names ≡ l.fn.cols ++ take l.col-index l.more
