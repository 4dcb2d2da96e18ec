use Rattle.lift_laws.proofs.SliceCase.{slice_call}
use Rattle.lift_laws.proofs.laws.slices_lift.Goals as goal

pub returns : goal.returns
returns c = λ docs s s1 s2 site looped a b d t cs m st. slice_call docs s s1 s2 site looped a b d t cs m st
