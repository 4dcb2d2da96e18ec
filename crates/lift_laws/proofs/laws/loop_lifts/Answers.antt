use Rattle.lift_laws.proofs.Cases.{loop_lifts}
use Rattle.lift_laws.proofs.laws.loop_lifts.Goals as goal

pub returns : goal.returns
returns c = loop_lifts
