use Rattle.std.proofs.Common.{◌≡◌, drop}
use Rattle.core_scope.specs.Ranks as spec
use Rattle.core_scope.proofs.ranks.at_most.Given as goal

abbrev pub invariant-loop-node : goal.invariant-loop-node
invariant-loop-node l = spec.at_most l.ranks l.most (drop l.node-index l.nodes) ≡ spec.at_most l.ranks l.most l.nodes
