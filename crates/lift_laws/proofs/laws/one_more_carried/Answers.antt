use Rattle.lift_laws.proofs.Cases.{one_more_carried}
use Rattle.lift_laws.proofs.laws.one_more_carried.Goals as goal

pub returns : goal.returns
returns c = one_more_carried
