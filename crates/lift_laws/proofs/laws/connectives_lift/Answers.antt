use Rattle.lift_laws.proofs.Cases.{connectives_lift}
use Rattle.lift_laws.proofs.laws.connectives_lift.Goals as goal

pub returns : goal.returns
returns c = connectives_lift
