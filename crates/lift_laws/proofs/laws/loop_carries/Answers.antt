use Rattle.lift_laws.proofs.Cases.{loop_carries}
use Rattle.lift_laws.proofs.laws.loop_carries.Goals as goal

pub returns : goal.returns
returns c = loop_carries
