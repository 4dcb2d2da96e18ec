use Rattle.std.proofs.Common.{◌≡◌, true, rules, subst, Err}
use Rattle.doc_table.specs.Documents.{documents_in}
use Rattle.doc_table.specs.Functions.{fun_answer}
use Rattle.xq_funs.specs.declared.fault.FunFault.TheVariants as x
use Rattle.xq_funs.specs.CallRules.{wants_memory}
use Rattle.xq_funs.specs.Calls.{Gives, values}
use Rattle.table_ops.proofs.Attempting.{gives_value, gives_code}
use Rattle.table_ops.proofs.attempts.outcome.Goals as goal

pub returns-in-Ok-clause-outcome : goal.returns-in-Ok-clause-outcome
returns-in-Ok-clause-outcome c = gives_value (documents_in c.args.pool.now c.args.store.now) c.args.fun c.args.pool.now c.call.new.pool c.args.store.now c.args.args.now true c.in-Ok.item c.in-Ok.ensures.value

pub returns-in-Err-Code-clause-outcome : goal.returns-in-Err-Code-clause-outcome
returns-in-Err-Code-clause-outcome c =
    let same : c.in-Err-Code.field-0 ≡ x.Code c.in-Err-Code.code = search rules in
    gives_code (documents_in c.args.pool.now c.args.store.now) c.args.fun c.args.pool.now c.call.new.pool c.args.store.now c.args.args.now (wants_memory c.args.fun c.args.args.now) c.in-Err-Code.code
    (subst (λ e. Gives (wants_memory c.args.fun c.args.args.now) c.call.new.pool c.args.store.now (fun_answer (documents_in c.args.pool.now c.args.store.now) c.args.fun (values c.args.pool.now c.args.store.now c.args.args.now)) (Err e)) same c.in-Err-Code.ensures.value)
