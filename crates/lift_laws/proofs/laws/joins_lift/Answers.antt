use Rattle.lift_laws.proofs.JoinCase.{join_call}
use Rattle.lift_laws.proofs.laws.joins_lift.Goals as goal

pub returns : goal.returns
returns c = λ docs s s1 s2 site looped a b t cs m st. join_call docs s s1 s2 site looped a b t cs m st
