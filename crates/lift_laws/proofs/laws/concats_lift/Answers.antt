use Rattle.lift_laws.proofs.Cases.{concats_lift}
use Rattle.lift_laws.proofs.laws.concats_lift.Goals as goal

pub returns : goal.returns
returns c = concats_lift
