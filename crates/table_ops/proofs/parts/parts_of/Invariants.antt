use Rattle.std.proofs.Common.{◌≡◌, ◌++◌, map, drop}
use Rattle.doc_table.specs.StoredItems.{meanings}
use Rattle.table_ops.specs.Contents.{part_of}
use Rattle.table_ops.proofs.parts.parts_of.Given as goal

abbrev pub invariant-loop-place : goal.invariant-loop-place
invariant-loop-place l = l.out.items ++ map part_of (meanings l.pool l.store (drop l.place l.cells)) ≡ map part_of (meanings l.pool l.store l.cells)
