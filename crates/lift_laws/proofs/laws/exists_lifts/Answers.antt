use Rattle.lift_laws.proofs.Cases.{exists_lifts}
use Rattle.lift_laws.proofs.laws.exists_lifts.Goals as goal

pub returns : goal.returns
returns c = exists_lifts
