use Rattle.lift_laws.proofs.RangeCase.{range_call}
use Rattle.lift_laws.proofs.laws.ranges_lift.Goals as goal

pub returns : goal.returns
returns c = λ docs s s1 s2 site looped a b t cs m st. range_call docs s s1 s2 site looped a b t cs m st
