use Rattle.xq_funs.proofs.Later.{trees_given_later, keeps_on}
use Rattle.table_ops.proofs.AggregateLaws.{once_before}
use Rattle.table_ops.proofs.ApplyLaws.{still_made}
use Rattle.table_ops.proofs.applying.apply.Goals as goal

pub returns-clause-rows : goal.returns-clause-rows
returns-clause-rows c =
    (still_made c.args.pool.now c.make.new.pool c.tell_apart.new.pool c.args.store.now c.args.op.now c.args.left.now c.args.right.now c.in_ok-table.table c.tell_apart.ensures.keeps (trees_given_later c.args.pool.now c.make.new.pool c.make.ensures.keeps c.args.store.now c.requires.trees) c.in_ok-table.ensures.made).table
    (once_before c.args.pool.now c.tell_apart.new.pool (keeps_on c.args.pool.now c.make.new.pool c.tell_apart.new.pool c.make.ensures.keeps c.tell_apart.ensures.keeps) c.in_ok-tell_apart.ensures.different)

pub returns-clause-given : goal.returns-clause-given
returns-clause-given c =
    (still_made c.args.pool.now c.make.new.pool c.tell_apart.new.pool c.args.store.now c.args.op.now c.args.left.now c.args.right.now c.in_ok-table.table c.tell_apart.ensures.keeps (trees_given_later c.args.pool.now c.make.new.pool c.make.ensures.keeps c.args.store.now c.requires.trees) c.in_ok-table.ensures.made).given
