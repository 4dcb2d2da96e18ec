use Rattle.read_laws.proofs.Resolution.{resolving_keeps_built}
use Rattle.read_laws.proofs.laws.resolving_keeps_built.Goals as goal

pub returns : goal.returns
returns c = resolving_keeps_built
