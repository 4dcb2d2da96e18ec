use Rattle.lift_laws.proofs.Cases.{operator_makes}
use Rattle.lift_laws.proofs.laws.operator_makes.Goals as goal

pub returns : goal.returns
returns c = operator_makes
