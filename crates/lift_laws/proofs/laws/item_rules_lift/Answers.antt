use Rattle.lift_laws.proofs.Cases.{item_rules_lift}
use Rattle.lift_laws.proofs.laws.item_rules_lift.Goals as goal

pub returns : goal.returns
returns c = item_rules_lift
