use Rattle.std.proofs.Common.{◌≡◌, length}
use Rattle.core_scope.proofs.ranks.give_from.Given as goal

abbrev pub invariant-loop-turn : goal.invariant-loop-turn
invariant-loop-turn l = length l.ranks.items ≡ length l.fn.ranks.items
