use Rattle.std.proofs.Common.{length}
use Rattle.core_normal.proofs.maker.Maker.+body.Given as goal

abbrev pub decreases-body : goal.decreases-body
decreases-body g l = length l.params.now
