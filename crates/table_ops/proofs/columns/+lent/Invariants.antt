use Rattle.std.proofs.Common.{length}
use Rattle.table_ops.proofs.columns.+lent.Given as goal

abbrev pub decreases-lent : goal.decreases-lent
decreases-lent l = length l.cols.now
