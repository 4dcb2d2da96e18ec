use Rattle.std.proofs.Common.{arith}
use Rattle.core_normal.specs.Templating.{held_in}
use Rattle.core_normal.proofs.Adding.{by_places}
use Rattle.core_normal.proofs.templates.all_made.Goals as goal

pub returns : goal.returns
returns c = λ _. by_places (held_in c.args.bodies.now) c.args.ks.now (λ i p. c.loop-k.invariant i (omega (arith, p, c.loop-k-test.false)))
