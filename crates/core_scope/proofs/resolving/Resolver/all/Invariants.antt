use Rattle.std.proofs.Common.{◌≡◌, ◌++◌, drop, map}
use Rattle.doc_table.specs.OtherTexts.{Grows}
use Rattle.core_scope.specs.Open.{open_in}
use Rattle.core_scope.specs.Standing.{Lasting}
use Rattle.core_scope.specs.Matching.{node_in, node_for}
use Rattle.core_scope.proofs.resolving.Resolver.all.Given as goal

abbrev pub invariant-loop-node : goal.invariant-loop-node
invariant-loop-node g l = record {
  names : open_in l.names ≡ open_in l.fn.names;
  keeps : Grows l.fn.pool l.pool;
  stands : Lasting l.pool (λ later. map (node_for l.self.functions.now (open_in l.fn.names)) l.nodes ≡ map (node_in later) l.found ++ map (node_for l.self.functions.now (open_in l.fn.names)) (drop l.node-index l.nodes));
}
