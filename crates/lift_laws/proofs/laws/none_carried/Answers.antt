use Rattle.lift_laws.proofs.Cases.{none_carried}
use Rattle.lift_laws.proofs.laws.none_carried.Goals as goal

pub returns : goal.returns
returns c = none_carried
