use Rattle.core_normal.proofs.laws.cores_are_lawful.Goals as goal
use Rattle.core_normal.proofs.PrologFits.{lawful_core}

pub returns : goal.returns
returns c = lawful_core
