use Rattle.query_engine.proofs.Compiling.{compiled}
use Rattle.query_engine.proofs.engine.compile.Goals as goal

pub returns-in-Err-clause-core : goal.returns-in-Err-clause-core
returns-in-Err-clause-core c = c.unread.ensures c.args.text.now c.in-Err.ensures

pub returns-in-Ok-clause-core : goal.returns-in-Ok-clause-core
returns-in-Ok-clause-core c = compiled c.args.text.now c.compile_query.new.pool c.in-Ok.query c.compile_query.result c.in-Ok.ensures c.compile_query.ensures.core
