use Rattle.read_laws.proofs.Queries.{queries_are_built}
use Rattle.read_laws.proofs.laws.queries_are_built.Goals as goal

pub returns : goal.returns
returns c = queries_are_built
