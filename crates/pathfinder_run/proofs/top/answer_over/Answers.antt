use Rattle.std.proofs.Common.{subst, Err}
use Rattle.core_meaning.specs.Erasure.{core_of}
use Rattle.core_meaning.specs.ExprOf.{expr_of}
use Rattle.doc_table.specs.Documents.{documents_in}
use Rattle.query_engine.specs.Answering.{Answers}
use Rattle.pathfinder_run.proofs.Values.{written, failing}
use Rattle.pathfinder_run.proofs.top.answer_over.Goals as goal

pub returns-in-Ok : goal.returns-in-Ok
returns-in-Ok c text i = written (documents_in c.args.pool.now c.args.store.now) text c.args.pool.now c.args.query.now c.in-Ok.bytes i c.in-Ok.ensures

pub returns-in-Err-Dynamic : goal.returns-in-Err-Dynamic
returns-in-Err-Dynamic c text i =
    failing (documents_in c.args.pool.now c.args.store.now) text c.args.pool.now c.args.query.now c.in-Err-Dynamic.code c.in-Err-Dynamic.offset i
    (subst (λ z. Answers (documents_in c.args.pool.now c.args.store.now) (expr_of (core_of c.args.pool.now c.args.query.now)) (Err z)) c.in-Err-Dynamic.field-0-is c.in-Err-Dynamic.ensures)
