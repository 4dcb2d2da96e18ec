use Rattle.lift_laws.proofs.Cases.{aggregates_lift}
use Rattle.lift_laws.proofs.laws.aggregates_lift.Goals as goal

pub returns : goal.returns
returns c = aggregates_lift
