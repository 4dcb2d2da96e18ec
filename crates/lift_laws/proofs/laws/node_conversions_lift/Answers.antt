use Rattle.lift_laws.proofs.TypeCase.{node_conversion_call}
use Rattle.lift_laws.proofs.laws.node_conversions_lift.Goals as goal

pub returns : goal.returns
returns c = λ docs s s1 s2 site q occurs looped a k m h. node_conversion_call docs s s1 s2 site occurs looped a q k m h
