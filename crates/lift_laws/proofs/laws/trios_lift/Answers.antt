use Rattle.lift_laws.proofs.PartCase.{trio_rule_call}
use Rattle.lift_laws.proofs.laws.trios_lift.Goals as goal

pub returns : goal.returns
returns c = λ docs s s1 s2 site q looped a b d t cs m st. trio_rule_call docs s s1 s2 site q looped a b d t cs m st
