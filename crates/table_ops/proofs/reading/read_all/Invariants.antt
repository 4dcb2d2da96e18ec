use Rattle.std.proofs.Common.{◌≡◌, length, take, drop, true}
use Rattle.xq_base.specs.Aggregates.{all_of, as_integer}
use Rattle.doc_table.specs.StoredItems.{meanings}
use Rattle.doc_table.specs.Values.{data_of}
use Rattle.table_ops.specs.Wholes.{atoms_in, atoms_given, read_behind}
use Rattle.table_ops.proofs.reading.read_all.Given as goal

abbrev pub invariant-loop-place : goal.invariant-loop-place
invariant-loop-place l =
    (take (length l.initial.pool) l.pool ≡ l.initial.pool)
    × (read_behind (atoms_in l.pool l.out.items) (all_of as_integer (data_of (meanings l.initial.pool l.store (drop l.place l.cells)))) ≡ all_of as_integer (data_of (meanings l.initial.pool l.store l.cells)))
    × (atoms_given (length l.pool) l.out.items ≡ true)
