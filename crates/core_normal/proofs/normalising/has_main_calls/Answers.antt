use Rattle.std.proofs.Common.{subst, ◌∙◌}
use Rattle.core_normal.specs.Ordered.{AllHeld}
use Rattle.core_normal.specs.Templating.{held_in}
use Rattle.core_normal.proofs.normalising.has_main_calls.Goals as goal

pub returns-then-all_made : goal.returns-then-all_made
returns-then-all_made c = λ t.
    subst (AllHeld (held_in c.args.bodies.now)) (c.as_slice.ensures.value ∙ c.in_ok-found.ensures t) (c.all_made.ensures c.if-all_made.true)
