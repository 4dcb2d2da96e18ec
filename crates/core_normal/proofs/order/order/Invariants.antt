use Rattle.std.proofs.Common.{◌≡◌, length}
use Rattle.core_normal.specs.Order.{Walks, turns_left}
use Rattle.core_normal.proofs.order.order.Given as goal

abbrev pub invariant-loop-next : goal.invariant-loop-next
invariant-loop-next l = record {
  walks : Walks l.walk;
  marks : length l.walk.marks.items ≡ length l.places;
}

abbrev pub decreases-loop-next : goal.decreases-loop-next
decreases-loop-next l = turns_left l.declarations l.places l.walk
