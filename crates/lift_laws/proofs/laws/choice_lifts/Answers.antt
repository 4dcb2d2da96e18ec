use Rattle.lift_laws.proofs.Cases.{choice_lifts}
use Rattle.lift_laws.proofs.laws.choice_lifts.Goals as goal

pub returns : goal.returns
returns c = choice_lifts
