use Rattle.lift_laws.proofs.Cases.{empty_lifts_call}
use Rattle.lift_laws.proofs.laws.empty_lifts.Goals as goal

pub returns : goal.returns
returns c = empty_lifts_call
