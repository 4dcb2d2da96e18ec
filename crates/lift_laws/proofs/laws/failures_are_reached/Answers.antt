use Rattle.lift_laws.proofs.Cases.{failures_are_reached}
use Rattle.lift_laws.proofs.laws.failures_are_reached.Goals as goal

pub returns : goal.returns
returns c = failures_are_reached
