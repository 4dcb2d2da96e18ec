use Rattle.lift_laws.proofs.Cases.{treats_lift}
use Rattle.lift_laws.proofs.laws.treats_lift.Goals as goal

pub returns : goal.returns
returns c = treats_lift
