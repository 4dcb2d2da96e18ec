use Rattle.std.proofs.Common.{◌≡◌, ◌∙◌, ◌++◌, map, subst, OnOk}
use Rattle.doc_table.specs.Documents.{documents_in}
use Rattle.doc_table.specs.StoredItems.{meanings}
use Rattle.plan_dag.specs.Cells.{given}
use Rattle.plan_dag.specs.ItemRules.{fun_outcome}
use Rattle.table_ops.specs.Attempts.{pairs_in}
use Rattle.table_ops.proofs.mapping.map_row.Goals as goal

pub returns-clause-found : goal.returns-clause-found
returns-clause-found c =
    subst (λ z. OnOk c.put_value.result (pairs_in c.put_value.new.pool c.args.store.now c.put_value.new.found.items ≡ pairs_in c.args.pool.now c.args.store.now c.args.found.now.items ++ map (λ v. (c.args.place, v)) (given (fun_outcome (documents_in c.args.pool.now c.args.store.now) c.args.fun (meanings c.args.pool.now c.args.store.now z)))))
    (c.deref.ensures.value ∙ c.in_ok-fill.ensures) c.put_value.ensures.found
