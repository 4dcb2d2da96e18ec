use Rattle.lift_laws.proofs.Cases.{a_check_adds}
use Rattle.lift_laws.proofs.laws.check_adds.Goals as goal

pub returns : goal.returns
returns c = a_check_adds
