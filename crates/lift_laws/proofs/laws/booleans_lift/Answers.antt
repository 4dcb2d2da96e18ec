use Rattle.lift_laws.proofs.Cases.{booleans_lift}
use Rattle.lift_laws.proofs.laws.booleans_lift.Goals as goal

pub returns : goal.returns
returns c = booleans_lift
