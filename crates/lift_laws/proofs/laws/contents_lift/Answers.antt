use Rattle.lift_laws.proofs.JoinCase.{content_call}
use Rattle.lift_laws.proofs.laws.contents_lift.Goals as goal

pub returns : goal.returns
returns c = λ docs s s' site looped a t m. content_call docs s s' site looped a t m
