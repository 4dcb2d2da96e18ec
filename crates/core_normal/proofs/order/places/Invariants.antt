use Rattle.std.proofs.Common.{◌≡◌, ◌++◌, drop}
use Rattle.core_normal.specs.Order as s
use Rattle.core_normal.proofs.order.places.Given as goal

abbrev pub invariant-loop-i : goal.invariant-loop-i
invariant-loop-i l = l.places.items ++ s.places l.i (drop l.i l.declarations) ≡ s.places 0 l.declarations
