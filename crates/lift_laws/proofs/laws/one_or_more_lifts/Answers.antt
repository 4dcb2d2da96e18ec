use Rattle.lift_laws.proofs.Cases.{one_or_more_lifts}
use Rattle.lift_laws.proofs.laws.one_or_more_lifts.Goals as goal

pub returns : goal.returns
returns c = one_or_more_lifts
