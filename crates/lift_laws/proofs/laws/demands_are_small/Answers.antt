use Rattle.lift_laws.proofs.Cases.{demands_are_small}
use Rattle.lift_laws.proofs.laws.demands_are_small.Goals as goal

pub returns : goal.returns
returns c = demands_are_small
