use Rattle.std.proofs.Common.{length}
use Rattle.core_normal.proofs.maker.Maker.+sort.Given as goal

abbrev pub decreases-sort : goal.decreases-sort
decreases-sort g l = length l.refs.now
