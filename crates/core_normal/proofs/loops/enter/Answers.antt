use Rattle.std.proofs.Common.{ap, ◌∙◌}
use Rattle.core_normal.specs.Binding.{at_value}
use Rattle.core_normal.proofs.Valued.{stands_behind}
use Rattle.core_normal.proofs.loops.enter.Goals as goal

pub returns-clause-inside : goal.returns-clause-inside
returns-clause-inside c = λ env s. stands_behind _ _ _ _ _ (c.in_ok-place_before.ensures.inside env s) c.in_ok-var_before.ensures.bound

pub returns-clause-outside : goal.returns-clause-outside
returns-clause-outside c = ap (at_value c.args.bind.now.at c.args.pos c.in_ok-place_before.place_before) c.in_ok-var_before.ensures.before ∙ c.in_ok-place_before.ensures.outside
