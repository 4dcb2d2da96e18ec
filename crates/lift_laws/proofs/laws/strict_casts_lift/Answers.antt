use Rattle.lift_laws.proofs.StrictCastCase.{strict_cast_call}
use Rattle.lift_laws.proofs.laws.strict_casts_lift.Goals as goal

pub returns : goal.returns
returns c = λ docs s s1 s2 site kind looped a t cs m st. strict_cast_call docs s s1 s2 site kind looped a t cs m st
