use Rattle.lift_laws.proofs.TupleCases.{let_bind_lifts}
use Rattle.lift_laws.proofs.laws.variable_binds_lift.Goals as goal

pub returns : goal.returns
returns c = λ docs s s1 s2 n x b sp looped vars tb inner tu keys body z lb ls. let_bind_lifts docs n x b sp looped vars tb inner tu keys body z lb ls
