use Rattle.std.proofs.Common.{◌∙◌}
use Rattle.xq_funs.proofs.Later.{atomized_later}
use Rattle.xq_funs.proofs.pairs.atomize_two.Goals as goal

pub returns-clause-value_b : goal.returns-clause-value_b
returns-clause-value_b c = c.in-Ok-atomize.ensures.value ∙ atomized_later c.args.pool.now c.atomize.new.pool c.in-Ok.ensures.keeps c.args.store.now c.args.b c.requires.trees c.requires.b
