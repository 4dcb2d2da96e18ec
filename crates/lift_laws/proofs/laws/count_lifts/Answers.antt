use Rattle.lift_laws.proofs.Cases.{count_lifts}
use Rattle.lift_laws.proofs.laws.count_lifts.Goals as goal

pub returns : goal.returns
returns c = count_lifts
