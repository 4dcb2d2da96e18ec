use Rattle.lift_laws.proofs.Cases.{atom_conversions_lift}
use Rattle.lift_laws.proofs.laws.atom_conversions_lift.Goals as goal

pub returns : goal.returns
returns c = atom_conversions_lift
