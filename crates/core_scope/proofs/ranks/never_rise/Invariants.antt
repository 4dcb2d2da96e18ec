use Rattle.std.proofs.Common.{◌≡◌, ℕ, ◌<◌, true}
use Rattle.core_scope.specs.Ranks.{rank_of, at_most}
use Rattle.core_scope.specs.Search.{targets}
use Rattle.core_scope.proofs.ranks.never_rise.Given as goal

abbrev pub invariant-loop-node : goal.invariant-loop-node
invariant-loop-node l = (k : ℕ) → k < l.node → at_most l.ranks (rank_of l.ranks k) (targets l.graph k) ≡ true
