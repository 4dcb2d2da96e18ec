use Rattle.lift_laws.proofs.Cases.{exactly_one_lifts}
use Rattle.lift_laws.proofs.laws.exactly_one_lifts.Goals as goal

pub returns : goal.returns
returns c = exactly_one_lifts
