use Rattle.std.proofs.Common.{◌≡◌, ◌++◌, length, take, drop}
use Rattle.doc_table.specs.Documents.{documents_in}
use Rattle.doc_table.specs.StoredItems.{meanings}
use Rattle.plan_dag.specs.Cells.{code_in}
use Rattle.plan_dag.specs.ItemRules.{group_outcome}
use Rattle.plan_dag.specs.Rows.{is_code}
use Rattle.table_ops.specs.Chains.{places_of}
use Rattle.table_ops.specs.Wholes.{members}
use Rattle.table_ops.proofs.aggregating.failing_groups.Given as goal

abbrev pub invariant-loop-place : goal.invariant-loop-place
invariant-loop-place l =
    (take (length l.initial.pool) l.pool ≡ l.initial.pool)
    × (l.out.items ++ places_of (λ c. is_code l.code (code_in (group_outcome (documents_in l.initial.pool l.store) l.agg (meanings l.initial.pool l.store (members l.index l.values c))))) l.place (drop l.place l.groups)
    ≡ places_of (λ c. is_code l.code (code_in (group_outcome (documents_in l.initial.pool l.store) l.agg (meanings l.initial.pool l.store (members l.index l.values c))))) 0 l.groups)
