use Rattle.lift_laws.proofs.Cases.{text_pairs_lift}
use Rattle.lift_laws.proofs.laws.text_pairs_lift.Goals as goal

pub returns : goal.returns
returns c = text_pairs_lift
