use Rattle.std.proofs.Common.{length}
use Rattle.core_normal.proofs.singles.+signed_by.Given as goal

abbrev pub decreases-signed_by : goal.decreases-signed_by
decreases-signed_by l = length l.signs.now
