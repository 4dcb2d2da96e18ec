use Rattle.std.proofs.Common.{length}
use Rattle.core_normal.proofs.calling.+with_params.Given as goal

abbrev pub decreases-with_params : goal.decreases-with_params
decreases-with_params l = length l.args
