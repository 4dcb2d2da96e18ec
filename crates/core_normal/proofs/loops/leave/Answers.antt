use Rattle.std.proofs.Common.{ap, ◌∙◌}
use Rattle.core_normal.specs.Binding.{at_value}
use Rattle.core_normal.proofs.loops.leave.Goals as goal

pub returns-clause-outside : goal.returns-clause-outside
returns-clause-outside c = c.in_ok-leave_place.ensures ∙ ap (at_value c.args.bind.now.at c.args.pos c.args.before.0) c.in_ok-set.ensures
