use Rattle.lift_laws.proofs.Cases.{unions_lift}
use Rattle.lift_laws.proofs.laws.unions_lift.Goals as goal

pub returns : goal.returns
returns c = unions_lift
