use Rattle.lift_laws.proofs.Cases.{branch_carries}
use Rattle.lift_laws.proofs.laws.branch_carries.Goals as goal

pub returns : goal.returns
returns c = branch_carries
