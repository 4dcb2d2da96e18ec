use Rattle.std.proofs.Common.{ap}
use Rattle.doc_table.specs.StoredItems.{trees_of}
use Rattle.plan_dag.specs.ItemRules.{bool_outcome, bool_cell}
use Rattle.table_ops.proofs.wholes.truth.Goals as goal

pub returns-in-Ok-clause-outcome : goal.returns-in-Ok-clause-outcome
returns-in-Ok-clause-outcome c = λ h. ap (λ z. bool_cell (bool_outcome z)) (c.in-Ok.ensures (trees_of h))

pub returns-in-Err-clause-outcome : goal.returns-in-Err-clause-outcome
returns-in-Err-clause-outcome c = λ h. ap (λ z. bool_cell (bool_outcome z)) (c.in-Err.ensures (trees_of h))
