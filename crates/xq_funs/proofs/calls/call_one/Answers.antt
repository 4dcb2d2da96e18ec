use Rattle.doc_table.specs.Documents.{documents_in}
use Rattle.xq_funs.proofs.calls.call_one.Goals as goal

pub returns-then-is_unary-clause-value : goal.returns-then-is_unary-clause-value
returns-then-is_unary-clause-value c = c.call_atom.ensures.value (documents_in c.args.pool.now c.args.store.now)
