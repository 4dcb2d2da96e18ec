use Rattle.lift_laws.proofs.Cases.{data_lifts}
use Rattle.lift_laws.proofs.laws.data_lifts.Goals as goal

pub returns : goal.returns
returns c = data_lifts
