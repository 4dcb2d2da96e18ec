use Rattle.std.proofs.Common.{◌≡◌, ◌++◌, length, take, drop}
use Rattle.doc_table.specs.Documents.{documents_in}
use Rattle.doc_table.specs.StoredItems.{meanings}
use Rattle.plan_dag.specs.ItemRules.{group_outcome}
use Rattle.table_ops.specs.Attempts.{valued, pairs_in, PairsGiven}
use Rattle.table_ops.specs.Wholes.{members}
use Rattle.table_ops.proofs.aggregating.wholes.Given as goal

abbrev pub invariant-loop-place : goal.invariant-loop-place
invariant-loop-place l =
    (take (length l.initial.pool) l.pool ≡ l.initial.pool)
    × (pairs_in l.pool l.store l.found.items ++ valued (λ c. group_outcome (documents_in l.initial.pool l.store) l.agg (meanings l.initial.pool l.store (members l.index l.values c))) l.place (drop l.place l.groups)
    ≡ valued (λ c. group_outcome (documents_in l.initial.pool l.store) l.agg (meanings l.initial.pool l.store (members l.index l.values c))) 0 l.groups)
    × PairsGiven l.pool l.store l.found.items
