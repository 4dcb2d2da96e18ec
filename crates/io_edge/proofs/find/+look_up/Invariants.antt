use Rattle.std.proofs.Common.{length}
use Rattle.io_edge.proofs.find.+look_up.Given as goal

abbrev pub decreases-look_up : goal.decreases-look_up
decreases-look_up l = length l.files.now
