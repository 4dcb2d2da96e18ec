use Rattle.lift_laws.proofs.TupleCases.{for_bind_lifts}
use Rattle.lift_laws.proofs.laws.loop_binds_lift.Goals as goal

pub returns : goal.returns
returns c = λ docs s s1 s2 s3 s4 s5 s6 s7 s8 n x p q sp looped vars vars' tq m turned vx vp inner tu t keys body z lq mm mi mx mp mc ls mb. for_bind_lifts docs n x p q sp looped vars vars' tq m turned vx vp inner tu t keys body z lq mm mi mx mp mc ls mb
