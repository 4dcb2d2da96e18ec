use Rattle.read_laws.proofs.Queries.{read_is_built}
use Rattle.read_laws.proofs.laws.read_is_built.Goals as goal

pub returns : goal.returns
returns c = read_is_built
