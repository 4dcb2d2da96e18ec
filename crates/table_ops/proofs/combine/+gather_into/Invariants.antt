use Rattle.std.proofs.Common.{length}
use Rattle.table_ops.proofs.combine.+gather_into.Given as goal

abbrev pub decreases-gather_into : goal.decreases-gather_into
decreases-gather_into l = length l.columns.now
