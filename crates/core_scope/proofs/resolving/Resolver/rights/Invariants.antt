use Rattle.std.proofs.Common.{◌≡◌, ◌++◌, drop, map}
use Rattle.doc_table.specs.OtherTexts.{Grows}
use Rattle.core_scope.specs.Open.{open_in}
use Rattle.core_scope.specs.Standing.{Lasting}
use Rattle.core_scope.specs.Matching.{right_in, right_for}
use Rattle.core_scope.proofs.resolving.Resolver.rights.Given as goal

abbrev pub invariant-loop-right : goal.invariant-loop-right
invariant-loop-right g l = record {
  names : open_in l.names ≡ open_in l.fn.names;
  keeps : Grows l.fn.pool l.pool;
  stands : Lasting l.pool (λ later. map (right_for l.self.functions.now (open_in l.fn.names)) l.rights ≡ map (right_in later) l.found ++ map (right_for l.self.functions.now (open_in l.fn.names)) (drop l.right-index l.rights));
}
