use Rattle.lift_laws.proofs.ConversionCase.{kind_conversion_call}
use Rattle.lift_laws.proofs.laws.kind_conversions_lift.Goals as goal

pub returns : goal.returns
returns c = λ docs s s1 s2 site kind occurs looped a t cs m st. kind_conversion_call docs s s1 s2 site kind occurs looped a t cs m st
