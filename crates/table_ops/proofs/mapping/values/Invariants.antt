use Rattle.std.proofs.Common.{◌≡◌, ◌++◌, length, take, drop}
use Rattle.doc_table.specs.Documents.{documents_in}
use Rattle.doc_table.specs.StoredItems.{meanings}
use Rattle.plan_dag.specs.ItemRules.{fun_outcome}
use Rattle.table_ops.specs.Columns.{cells_of}
use Rattle.table_ops.specs.Attempts.{valued, pairs_in, PairsGiven}
use Rattle.table_ops.proofs.mapping.values.Given as goal

abbrev pub invariant-loop-place : goal.invariant-loop-place
invariant-loop-place l =
    (take (length l.initial.pool) l.pool ≡ l.initial.pool)
    × (pairs_in l.pool l.store l.found.items ++ valued (λ r. fun_outcome (documents_in l.initial.pool l.store) l.fun (meanings l.initial.pool l.store (cells_of l.input.cols l.cols r))) l.place (drop l.place l.input.rows)
    ≡ valued (λ r. fun_outcome (documents_in l.initial.pool l.store) l.fun (meanings l.initial.pool l.store (cells_of l.input.cols l.cols r))) 0 l.input.rows)
    × PairsGiven l.pool l.store l.found.items
