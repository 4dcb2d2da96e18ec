use Rattle.std.proofs.Common.{◌≡◌, length}
use Rattle.core_scope.proofs.ranks.give_all.Given as goal

abbrev pub invariant-loop-node : goal.invariant-loop-node
invariant-loop-node l = length l.ranks.items ≡ length l.fn.ranks.items
