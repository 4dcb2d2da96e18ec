use Rattle.lift_laws.proofs.SetCase.{except_call}
use Rattle.lift_laws.proofs.laws.excepts_lift.Goals as goal

pub returns : goal.returns
returns c = λ docs s s1 s2 site looped a b t cs m st. except_call docs s s1 s2 site looped a b t cs m st
