use Rattle.std.proofs.Common.{◌≡◌, ◌++◌, length, take, drop}
use Rattle.doc_table.specs.Documents.{documents_in}
use Rattle.doc_table.specs.StoredItems.{meanings}
use Rattle.plan_dag.specs.Cells.{code_in}
use Rattle.plan_dag.specs.Rows.{is_code}
use Rattle.plan_dag.specs.ItemRules.{fun_outcome}
use Rattle.table_ops.specs.Chains.{places_of}
use Rattle.table_ops.specs.Columns.{cells_of}
use Rattle.table_ops.proofs.failing.failing.Given as goal

abbrev pub invariant-loop-place : goal.invariant-loop-place
invariant-loop-place l =
    (take (length l.initial.pool) l.pool ≡ l.initial.pool)
    × (l.out.items ++ places_of (λ r. is_code l.code (code_in (fun_outcome (documents_in l.initial.pool l.store) l.fun (meanings l.initial.pool l.store (cells_of l.input.cols l.cols r))))) l.place (drop l.place l.input.rows)
    ≡ places_of (λ r. is_code l.code (code_in (fun_outcome (documents_in l.initial.pool l.store) l.fun (meanings l.initial.pool l.store (cells_of l.input.cols l.cols r))))) 0 l.input.rows)
