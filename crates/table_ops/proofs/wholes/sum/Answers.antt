use Rattle.xq_funs.specs.Answering.{answer_of}
use Rattle.table_ops.specs.Attempts.{outcome_in}
use Rattle.table_ops.proofs.WholeLaws.{sum_gives}
use Rattle.table_ops.proofs.wholes.sum.Goals as goal

pub returns-clause-outcome : goal.returns-clause-outcome
returns-clause-outcome c = λ texts h. sum_gives texts c.args.atoms.now (answer_of c.total.result) (outcome_in texts h c.within.result) (c.total.ensures texts) (c.within.ensures.outcome texts h)
