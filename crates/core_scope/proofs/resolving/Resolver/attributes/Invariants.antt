use Rattle.std.proofs.Common.{◌≡◌, ◌++◌, drop, map}
use Rattle.doc_table.specs.OtherTexts.{Grows}
use Rattle.core_scope.specs.Open.{open_in}
use Rattle.core_scope.specs.Standing.{Lasting}
use Rattle.core_scope.specs.Matching.{attribute_in, attribute_for}
use Rattle.core_scope.proofs.resolving.Resolver.attributes.Given as goal

abbrev pub invariant-loop-attribute : goal.invariant-loop-attribute
invariant-loop-attribute g l = record {
  names : open_in l.names ≡ open_in l.fn.names;
  keeps : Grows l.fn.pool l.pool;
  stands : Lasting l.pool (λ later. map (attribute_for l.self.functions.now (open_in l.fn.names)) l.attributes ≡ map (attribute_in later) l.found ++ map (attribute_for l.self.functions.now (open_in l.fn.names)) (drop l.attribute-index l.attributes));
}
