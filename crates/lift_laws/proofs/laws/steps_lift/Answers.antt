use Rattle.lift_laws.proofs.Cases.{steps_lift}
use Rattle.lift_laws.proofs.laws.steps_lift.Goals as goal

pub returns : goal.returns
returns c = steps_lift
