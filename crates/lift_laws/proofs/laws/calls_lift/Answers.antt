use Rattle.lift_laws.proofs.Cases.{calls_lift}
use Rattle.lift_laws.proofs.laws.calls_lift.Goals as goal

pub returns : goal.returns
returns c = calls_lift
