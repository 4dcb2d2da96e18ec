use Rattle.lift_laws.proofs.Cases.{instances_lift}
use Rattle.lift_laws.proofs.laws.instances_lift.Goals as goal

pub returns : goal.returns
returns c = instances_lift
