use Rattle.std.proofs.Common.{◌≡◌, ◌+◌, length}
use Rattle.core_normal.proofs.order.go_to.Given as goal

abbrev pub invariant-loop-k : goal.invariant-loop-k
invariant-loop-k l = length l.turns.items ≡ length l.initial.turns.items + l.k-index
