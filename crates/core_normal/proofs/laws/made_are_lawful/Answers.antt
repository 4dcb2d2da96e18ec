use Rattle.core_normal.proofs.laws.made_are_lawful.Goals as goal
use Rattle.core_normal.proofs.LawfulMade.{lawful_made}

pub returns : goal.returns
returns c = lawful_made
