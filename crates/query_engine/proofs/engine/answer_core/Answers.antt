use Rattle.std.proofs.Common.{Err, sym, subst}
use Rattle.core_meaning.specs.Erasure.{core_of}
use Rattle.core_meaning.specs.Meaning.{no_variables}
use Rattle.doc_table.specs.StoredItems.{meanings}
use Rattle.xq_serial.specs.Answer as serial
use Rattle.query_engine.specs.Evaluating.{AllFit, FaultOf, fails_of}
use Rattle.query_engine.proofs.Answered.{runs_chosen, all_given, writes, holds_attribute, fails_first}
use Rattle.query_engine.proofs.engine.answer_core.Goals as goal

pub eval-requires-clause-core : goal.eval-requires-clause-core
eval-requires-clause-core c = runs_chosen c.has_forms-sums.result c.args.pool.now c.args.core.now c.has_forms-sums.ensures c.requires.core

pub serialise-requires-clause-items : goal.serialise-requires-clause-items
serialise-requires-clause-items c =
    all_given c.has_forms-sums.result c.args.pool.now c.args.store.now c.as_slice.result.now (subst (AllFit c.has_forms-sums.result c.args.store.now) (sym c.as_slice.ensures.value) c.in-Ok.ensures.0.1)

pub returns-in-Ok-serialise : goal.returns-in-Ok-serialise
returns-in-Ok-serialise c =
    writes c.has_forms-sums.result c.args.pool.now c.args.store.now (core_of c.args.pool.now c.args.core.now) c.in-Ok.found c.as_slice.result.now c.in-Ok-serialise.bytes c.in-Ok.ensures c.as_slice.ensures.value c.in-Ok-serialise.ensures

pub returns-in-Err : goal.returns-in-Err
returns-in-Err c =
    fails_first c.has_forms-sums.result c.args.pool.now c.args.store.now (core_of c.args.pool.now c.args.core.now) c.in-Reached.failed
    (subst (FaultOf (fails_of c.has_forms-sums.result c.args.pool.now c.args.store.now 0 (core_of c.args.pool.now c.args.core.now) no_variables)) c.in-Reached.is c.in-Err.ensures)

pub returns : goal.returns
returns c =
    holds_attribute c.has_forms-sums.result c.args.pool.now c.args.store.now (core_of c.args.pool.now c.args.core.now) c.in-Ok.found c.as_slice.result.now _ c.in-Ok.ensures c.as_slice.ensures.value
    (subst (λ z. serial.Answers (meanings c.args.pool.now c.args.store.now c.as_slice.result.now) (Err z)) c.in-Attribute.is c.in-Err-serialise.ensures)
