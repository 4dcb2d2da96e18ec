use Rattle.lift_laws.proofs.SumCase.{sum_or_call}
use Rattle.lift_laws.proofs.laws.sums_or_lift.Goals as goal

pub returns : goal.returns
returns c = λ docs s s1 s2 site looped a b t cs m st. sum_or_call docs s s1 s2 site looped a b t cs m st
