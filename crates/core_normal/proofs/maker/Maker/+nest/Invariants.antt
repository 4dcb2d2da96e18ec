use Rattle.std.proofs.Common.{length}
use Rattle.core_normal.proofs.maker.Maker.+nest.Given as goal

abbrev pub decreases-nest : goal.decreases-nest
decreases-nest g l = length l.binds.now
