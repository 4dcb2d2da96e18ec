use Rattle.std.proofs.Common.{◌≡◌, length}
use Rattle.staircase.specs.Near.{parents_left, row_left}
use Rattle.staircase.proofs.near.leave.Given as goal

abbrev pub invariant-loop-p : goal.invariant-loop-p
invariant-loop-p l = (row_left l.at l.first l.parents ≡ row_left l.initial.at l.first l.initial.parents) × (parents_left l.at l.first l.parents ≡ parents_left l.initial.at l.first l.initial.parents)

abbrev pub decreases-loop-p : goal.decreases-loop-p
decreases-loop-p l = length l.parents
