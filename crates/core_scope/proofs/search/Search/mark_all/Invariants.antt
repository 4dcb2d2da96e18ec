use Rattle.std.proofs.Common.{◌≡◌, drop}
use Rattle.core_scope.specs.Search as spec
use Rattle.core_scope.proofs.search.Search.mark_all.Given as goal

abbrev pub invariant-loop-node : goal.invariant-loop-node
invariant-loop-node l = spec.mark_all (drop l.node-index l.nodes) l.self ≡ spec.mark_all l.nodes l.fn.self
