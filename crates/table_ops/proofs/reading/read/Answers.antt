use Rattle.xq_funs.proofs.Later.{trees_given_later}
use Rattle.table_ops.proofs.MapLaws.{names_later}
use Rattle.table_ops.proofs.reading.read.Goals as goal

pub spelled-requires-clause-trees : goal.spelled-requires-clause-trees
spelled-requires-clause-trees c = trees_given_later c.args.pool.now c.atomize.new.pool c.atomize.ensures.keeps c.args.store.now c.requires.trees

pub spelled-requires-clause-names : goal.spelled-requires-clause-names
spelled-requires-clause-names c = names_later c.args.pool.now c.atomize.new.pool c.args.store.now c.atomize.ensures.keeps c.requires.trees c.requires.names
