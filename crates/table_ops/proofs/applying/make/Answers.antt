use Rattle.table_ops.proofs.CellMoves.{rows_of_given}
use Rattle.table_ops.proofs.applying.make.Goals as goal

pub make_compared-requires-clause-left_given : goal.make_compared-requires-clause-left_given
make_compared-requires-clause-left_given c = rows_of_given c.args.pool.now c.args.store.now c.args.left.now.rows c.requires.left_rows

pub make_compared-requires-clause-right_given : goal.make_compared-requires-clause-right_given
make_compared-requires-clause-right_given c = rows_of_given c.args.pool.now c.args.store.now c.args.right.now.rows c.requires.right_rows

pub make_of_one-requires-clause-left_given : goal.make_of_one-requires-clause-left_given
make_of_one-requires-clause-left_given c = rows_of_given c.args.pool.now c.args.store.now c.args.left.now.rows c.requires.left_rows
