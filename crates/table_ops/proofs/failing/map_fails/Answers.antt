use Rattle.std.proofs.Common.{◌∙◌, ap}
use Rattle.doc_table.specs.Documents.{documents_in}
use Rattle.doc_table.specs.StoredItems.{meanings}
use Rattle.plan_dag.specs.Cells.{code_in}
use Rattle.plan_dag.specs.Rows.{is_code}
use Rattle.plan_dag.specs.ItemRules.{fun_outcome}
use Rattle.table_ops.specs.Chains.{places_of}
use Rattle.table_ops.specs.Columns.{cells_of}
use Rattle.table_ops.proofs.FailLaws.{failing_within, fails_whole, fails_given}
use Rattle.table_ops.proofs.failing.map_fails.Goals as goal

pub gather-requires : goal.gather-requires
gather-requires c =
    failing_within (λ r. is_code c.args.code (code_in (fun_outcome (documents_in c.args.pool.now c.args.store.now) c.args.fun (meanings c.args.pool.now c.args.store.now (cells_of c.args.input.now.cols c.as_slice.result.now r))))) c.args.input.now.rows c.deref.result.now
    (c.deref.ensures.value ∙ c.in_ok-places.ensures.places)

pub returns-clause-rows : goal.returns-clause-rows
returns-clause-rows c =
    fails_whole c.args.pool.now c.failing.new.pool c.args.store.now c.failing.ensures.keeps c.requires.trees c.args.input.now c.requires.rows (documents_in c.args.pool.now c.args.store.now) c.args.fun c.args.code c.args.cols.now c.deref.result.now
    (c.deref.ensures.value ∙ c.in_ok-places.ensures.places ∙ ap (λ z. places_of (λ r. is_code c.args.code (code_in (fun_outcome (documents_in c.args.pool.now c.args.store.now) c.args.fun (meanings c.args.pool.now c.args.store.now (cells_of c.args.input.now.cols z r))))) 0 c.args.input.now.rows) c.as_slice.ensures.same)
    c.gather.result c.gather.ensures

pub returns-clause-given : goal.returns-clause-given
returns-clause-given c =
    fails_given c.args.pool.now c.failing.new.pool c.args.store.now c.failing.ensures.keeps c.requires.trees c.args.input.now c.requires.rows (documents_in c.args.pool.now c.args.store.now) c.args.fun c.args.code c.args.cols.now c.deref.result.now
    (c.deref.ensures.value ∙ c.in_ok-places.ensures.places ∙ ap (λ z. places_of (λ r. is_code c.args.code (code_in (fun_outcome (documents_in c.args.pool.now c.args.store.now) c.args.fun (meanings c.args.pool.now c.args.store.now (cells_of c.args.input.now.cols z r))))) 0 c.args.input.now.rows) c.as_slice.ensures.same)
    c.gather.result c.gather.ensures
