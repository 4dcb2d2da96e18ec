use Rattle.std.proofs.Common.{length}
use Rattle.io_edge.proofs.find.+find.Given as goal

abbrev pub decreases-find : goal.decreases-find
decreases-find l = length l.files.now
