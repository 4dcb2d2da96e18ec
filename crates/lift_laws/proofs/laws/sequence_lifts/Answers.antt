use Rattle.lift_laws.proofs.Cases.{sequence_lifts}
use Rattle.lift_laws.proofs.laws.sequence_lifts.Goals as goal

pub returns : goal.returns
returns c = sequence_lifts
