use Rattle.lift_laws.proofs.Cases.{text_rules_lift}
use Rattle.lift_laws.proofs.laws.text_rules_lift.Goals as goal

pub returns : goal.returns
returns c = text_rules_lift
