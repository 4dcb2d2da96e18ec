use Rattle.std.proofs.Common.{◌≡◌, drop}
use Rattle.core_scope.specs.Search as spec
use Rattle.core_scope.proofs.search.Graph.add_to.Given as goal

abbrev pub invariant-loop-node : goal.invariant-loop-node
invariant-loop-node l = spec.add_to l.target (drop l.node-index l.nodes) l.self ≡ spec.add_to l.target l.nodes l.fn.self
