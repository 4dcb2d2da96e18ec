use Rattle.std.proofs.Common.{length}
use Rattle.table_ops.proofs.attempts.+are_booleans.Given as goal

abbrev pub decreases-are_booleans : goal.decreases-are_booleans
decreases-are_booleans l = length l.args.now
