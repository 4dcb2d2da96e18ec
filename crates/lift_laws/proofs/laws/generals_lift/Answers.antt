use Rattle.lift_laws.proofs.Cases.{generals_lift}
use Rattle.lift_laws.proofs.laws.generals_lift.Goals as goal

pub returns : goal.returns
returns c = generals_lift
