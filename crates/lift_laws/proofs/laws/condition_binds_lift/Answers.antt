use Rattle.lift_laws.proofs.TupleCases.{where_bind_lifts}
use Rattle.lift_laws.proofs.laws.condition_binds_lift.Goals as goal

pub returns : goal.returns
returns c = λ docs s s1 s2 s3 s4 n d sp looped vars vars' tc kept inner tu keys body z ld mk rs ls. where_bind_lifts docs n d sp looped vars vars' tc kept inner tu keys body z ld mk rs ls
