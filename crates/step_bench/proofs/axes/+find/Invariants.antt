use Rattle.std.proofs.Common.{length}
use Rattle.step_bench.proofs.axes.+find.Given as goal

abbrev pub decreases-find : goal.decreases-find
decreases-find l = length l.axes.now
