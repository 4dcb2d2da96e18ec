use Rattle.lift_laws.proofs.InsertCase.{insert_call}
use Rattle.lift_laws.proofs.laws.inserts_lift.Goals as goal

pub returns : goal.returns
returns c = λ docs s s1 s2 site looped a b d t cs m st. insert_call docs s s1 s2 site looped a b d t cs m st
