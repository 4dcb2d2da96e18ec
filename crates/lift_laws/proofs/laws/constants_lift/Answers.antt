use Rattle.lift_laws.proofs.Cases.{constants_lift}
use Rattle.lift_laws.proofs.laws.constants_lift.Goals as goal

pub returns : goal.returns
returns c = constants_lift
