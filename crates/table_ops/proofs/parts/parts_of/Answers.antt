use Rattle.table_ops.proofs.ReadLaws.{cell_given}
use Rattle.table_ops.proofs.parts.parts_of.Goals as goal

pub part_of-requires-clause-item : goal.part_of-requires-clause-item
part_of-requires-clause-item c = cell_given c.args.pool.now c.args.store.now c.args.cells.now c.loop-place.place c.requires.items
