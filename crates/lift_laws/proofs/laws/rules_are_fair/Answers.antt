use Rattle.lift_laws.proofs.Cases.{rules_are_fair}
use Rattle.lift_laws.proofs.laws.rules_are_fair.Goals as goal

pub returns : goal.returns
returns c = rules_are_fair
