use Rattle.table_ops.proofs.wholes.of_atoms.Goals as goal

pub returns-in-Sum-clause-given : goal.returns-in-Sum-clause-given
returns-in-Sum-clause-given c = λ h. c.sum.ensures.given c.args.pool.now h
