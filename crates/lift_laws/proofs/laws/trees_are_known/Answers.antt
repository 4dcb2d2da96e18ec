use Rattle.lift_laws.proofs.Cases.{trees_are_known}
use Rattle.lift_laws.proofs.laws.trees_are_known.Goals as goal

pub returns : goal.returns
returns c = trees_are_known
