use Rattle.lift_laws.proofs.Cases.{paths_lift}
use Rattle.lift_laws.proofs.laws.paths_lift.Goals as goal

pub returns : goal.returns
returns c = paths_lift
