use Rattle.lift_laws.proofs.Cases.{zero_or_one_lifts}
use Rattle.lift_laws.proofs.laws.zero_or_one_lifts.Goals as goal

pub returns : goal.returns
returns c = zero_or_one_lifts
