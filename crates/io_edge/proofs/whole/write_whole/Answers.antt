use Rattle.std.proofs.Common.{rules}
use Rattle.io_edge.proofs.Taking.{TakesOf-next}
use Rattle.io_edge.proofs.whole.write_whole.Goals as goal

pub loop-at-preserved : goal.loop-at-preserved
loop-at-preserved g c = search (rules, TakesOf-next)
