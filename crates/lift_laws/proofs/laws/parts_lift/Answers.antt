use Rattle.lift_laws.proofs.Cases.{parts_lift}
use Rattle.lift_laws.proofs.laws.parts_lift.Goals as goal

pub returns : goal.returns
returns c = parts_lift
