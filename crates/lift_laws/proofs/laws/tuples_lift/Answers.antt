use Rattle.lift_laws.proofs.TupleCases.{leaf_lifts}
use Rattle.lift_laws.proofs.laws.tuples_lift.Goals as goal

pub returns : goal.returns
returns c = λ docs s s1 s2 s3 n ks e looped vars keys body t z lk le mt. leaf_lifts docs n ks e looped vars keys body t z lk le mt
