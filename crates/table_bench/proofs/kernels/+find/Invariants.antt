use Rattle.std.proofs.Common.{length}
use Rattle.table_bench.proofs.kernels.+find.Given as goal

abbrev pub decreases-find : goal.decreases-find
decreases-find l = length l.kernels.now
