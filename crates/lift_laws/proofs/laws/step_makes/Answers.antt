use Rattle.lift_laws.proofs.Cases.{a_step_makes}
use Rattle.lift_laws.proofs.laws.step_makes.Goals as goal

pub returns : goal.returns
returns c = a_step_makes
