use Rattle.staircase.proofs.References.{hits_are_reached}
use Rattle.staircase.proofs.laws.hits_are_reached.Goals as goal

pub returns : goal.returns
returns c = hits_are_reached
