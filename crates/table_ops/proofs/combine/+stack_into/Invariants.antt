use Rattle.std.proofs.Common.{length}
use Rattle.table_ops.proofs.combine.+stack_into.Given as goal

abbrev pub decreases-stack_into : goal.decreases-stack_into
decreases-stack_into l = length l.left.now
