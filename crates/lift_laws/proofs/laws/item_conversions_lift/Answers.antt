use Rattle.lift_laws.proofs.Cases.{item_conversions_lift}
use Rattle.lift_laws.proofs.laws.item_conversions_lift.Goals as goal

pub returns : goal.returns
returns c = item_conversions_lift
