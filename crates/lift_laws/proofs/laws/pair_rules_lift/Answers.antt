use Rattle.lift_laws.proofs.Cases.{pair_rules_lift}
use Rattle.lift_laws.proofs.laws.pair_rules_lift.Goals as goal

pub returns : goal.returns
returns c = pair_rules_lift
