use Rattle.std.proofs.Common.{◌≡◌, length}
use Rattle.core_scope.specs.Open.{left_to, open_in}
use Rattle.core_scope.proofs.bindings.Bindings.leave_to.Given as goal

abbrev pub decreases-loop-self : goal.decreases-loop-self
decreases-loop-self l = length ((open_in l.self).outer)

abbrev pub invariant-loop-self : goal.invariant-loop-self
invariant-loop-self l = left_to l.mark (open_in l.self) ≡ left_to l.mark (open_in l.fn.self)
