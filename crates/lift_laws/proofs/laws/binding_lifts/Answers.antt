use Rattle.lift_laws.proofs.Cases.{binding_lifts}
use Rattle.lift_laws.proofs.laws.binding_lifts.Goals as goal

pub returns : goal.returns
returns c = binding_lifts
