use Rattle.table_ops.proofs.CellMoves.{texts_of_given}
use Rattle.table_ops.proofs.wholes.whole.Goals as goal

pub truth-requires : goal.truth-requires
truth-requires c = texts_of_given c.args.pool.now c.args.store.now c.args.cells.now c.requires.items

pub returns-in-Ebv-clause-given : goal.returns-in-Ebv-clause-given
returns-in-Ebv-clause-given c = c.truth.ensures.given c.args.store.now
