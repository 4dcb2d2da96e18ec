use Rattle.std.proofs.Common.{◌≡◌, ◌++◌, drop, map}
use Rattle.doc_table.specs.OtherTexts.{Grows}
use Rattle.core_scope.specs.Open.{open_in}
use Rattle.core_scope.specs.Standing.{Lasting}
use Rattle.core_scope.specs.Matching.{behind_in, behind_for}
use Rattle.core_scope.proofs.resolving.Resolver.behinds.Given as goal

abbrev pub invariant-loop-behind : goal.invariant-loop-behind
invariant-loop-behind g l = record {
  names : open_in l.names ≡ open_in l.fn.names;
  keeps : Grows l.fn.pool l.pool;
  stands : Lasting l.pool (λ later. map (behind_for l.self.functions.now (open_in l.fn.names)) l.behinds ≡ map (behind_in later) l.found ++ map (behind_for l.self.functions.now (open_in l.fn.names)) (drop l.behind-index l.behinds));
}
