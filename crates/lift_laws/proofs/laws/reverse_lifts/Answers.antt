use Rattle.lift_laws.proofs.Cases.{reverse_lifts}
use Rattle.lift_laws.proofs.laws.reverse_lifts.Goals as goal

pub returns : goal.returns
returns c = reverse_lifts
