use Rattle.lift_laws.proofs.IndexCase.{index_call}
use Rattle.lift_laws.proofs.laws.indices_lift.Goals as goal

pub returns : goal.returns
returns c = λ docs s s1 s2 site looped a b t cs m st. index_call docs s s1 s2 site looped a b t cs m st
