use Rattle.std.proofs.Common.{◌≡◌, drop}
use Rattle.core_scope.specs.Search as spec
use Rattle.core_scope.proofs.search.Graph.turned.Given as goal

abbrev pub invariant-loop-node : goal.invariant-loop-node
invariant-loop-node l = spec.turned_from l.node (drop l.node l.self) l.turned ≡ spec.turned l.nodes l.self
