use Rattle.lift_laws.proofs.SortedCase.{sorted_lifts}
use Rattle.lift_laws.proofs.laws.sorted_lifts.Goals as goal

pub returns : goal.returns
returns c = λ docs s s1 s2 s3 s4 n site os sp looped vars inner tu keys body k t z ls mk ck mt. sorted_lifts docs n site os sp looped vars inner tu keys body k t z ls mk ck mt
