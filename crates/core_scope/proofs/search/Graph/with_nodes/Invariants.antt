use Rattle.std.proofs.Common.{◌≡◌, replicate, []}
use Rattle.core_scope.proofs.search.Graph.with_nodes.Given as goal

abbrev pub invariant-loop-node : goal.invariant-loop-node
invariant-loop-node l = l.graph ≡ replicate l._node []
