use Rattle.lift_laws.proofs.PartCase.{part_call}
use Rattle.lift_laws.proofs.laws.parts_of_texts_lift.Goals as goal

pub returns : goal.returns
returns c = λ docs s s1 s2 site looped a b t cs m st. part_call docs s s1 s2 site looped a b t cs m st
