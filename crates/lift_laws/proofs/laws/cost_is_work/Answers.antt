use Rattle.lift_laws.proofs.Cases.{the_cost_is_work}
use Rattle.lift_laws.proofs.laws.cost_is_work.Goals as goal

pub returns : goal.returns
returns c = the_cost_is_work
