use Rattle.query_bench.proofs.Readings.{says_query}
use Rattle.query_bench.proofs.run.line_of.Goals as goal

pub returns-in-Ok : goal.returns-in-Ok
returns-in-Ok c = says_query _ _ c.in-Ok.ensures
