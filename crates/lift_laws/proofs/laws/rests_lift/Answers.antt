use Rattle.lift_laws.proofs.PlaceCase.{from_call}
use Rattle.lift_laws.proofs.laws.rests_lift.Goals as goal

pub returns : goal.returns
returns c = λ docs s s1 s2 site looped a b t cs m st. from_call docs s s1 s2 site looped a b t cs m st
