use Rattle.lift_laws.proofs.DistinctCase.{distinct_call}
use Rattle.lift_laws.proofs.laws.distincts_lift.Goals as goal

pub returns : goal.returns
returns c = λ docs s s' site looped a t m. distinct_call docs site looped a t m
