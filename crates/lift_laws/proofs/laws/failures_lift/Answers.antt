use Rattle.lift_laws.proofs.Cases.{failures_lift}
use Rattle.lift_laws.proofs.laws.failures_lift.Goals as goal

pub returns : goal.returns
returns c = failures_lift
