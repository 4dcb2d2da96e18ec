use Rattle.std.proofs.Common.{◌≡◌, ◌≤◌, ◌++◌, [], drop, length}
use Rattle.indexmap.specs.IndexSet.{insert_all}
use Rattle.table_ops.specs.Keys.{keys_from}
use Rattle.table_ops.proofs.keys.number.Given as goal

abbrev pub invariant-loop-value : goal.invariant-loop-value
invariant-loop-value g l =
    (l.out.items ++ keys_from g.T.PartialEq.eq l.table.keys (drop l.value-index l.values) ≡ keys_from g.T.PartialEq.eq [] l.values)
    × (insert_all g.T.PartialEq.eq l.table.keys (drop l.value-index l.values) ≡ insert_all g.T.PartialEq.eq [] l.values)
    × (length l.table.keys ≤ l.value-index)
