use Rattle.lift_laws.proofs.Cases.{castable_lifts}
use Rattle.lift_laws.proofs.laws.castable_lifts.Goals as goal

pub returns : goal.returns
returns c = castable_lifts
