use Rattle.std.proofs.Common.{◌∙◌}
use Rattle.xq_funs.proofs.Later.{atomized_later}
use Rattle.xq_funs.proofs.pairs.atomize_three.Goals as goal

pub returns-clause-value_b : goal.returns-clause-value_b
returns-clause-value_b c = c.in-Ok-atomize_two.ensures.value_a ∙ atomized_later c.args.pool.now c.atomize.new.pool c.in-Ok.ensures.keeps c.args.store.now c.args.b c.requires.trees c.requires.b

pub returns-clause-value_c : goal.returns-clause-value_c
returns-clause-value_c c = c.in-Ok-atomize_two.ensures.value_b ∙ atomized_later c.args.pool.now c.atomize.new.pool c.in-Ok.ensures.keeps c.args.store.now c.args.c c.requires.trees c.requires.c
