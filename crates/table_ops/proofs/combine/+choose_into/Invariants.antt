use Rattle.std.proofs.Common.{length}
use Rattle.table_ops.proofs.combine.+choose_into.Given as goal

abbrev pub decreases-choose_into : goal.decreases-choose_into
decreases-choose_into l = length l.wanted.now
