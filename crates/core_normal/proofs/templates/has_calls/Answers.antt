use Rattle.std.proofs.Common.{subst}
use Rattle.core_normal.specs.Ordered.{AllHeld}
use Rattle.core_normal.specs.Templating.{held_in}
use Rattle.core_normal.proofs.Adding.{calls_held}
use Rattle.core_normal.proofs.templates.has_calls.Goals as goal

pub returns-then-all_made : goal.returns-then-all_made
returns-then-all_made c =
    calls_held c.args.bodies.now c.args.e.now c.in_ok-found.found.items c.in_ok-found.ensures
    (subst (AllHeld (held_in c.args.bodies.now)) c.as_slice.ensures.value (c.all_made.ensures c.if-all_made.true))
