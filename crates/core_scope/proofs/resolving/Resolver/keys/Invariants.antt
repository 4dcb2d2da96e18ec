use Rattle.std.proofs.Common.{◌≡◌, ◌++◌, drop, map}
use Rattle.doc_table.specs.OtherTexts.{Grows}
use Rattle.core_scope.specs.Open.{open_in}
use Rattle.core_scope.specs.Standing.{Lasting}
use Rattle.core_scope.specs.Matching.{key_in, key_for}
use Rattle.core_scope.proofs.resolving.Resolver.keys.Given as goal

abbrev pub invariant-loop-key : goal.invariant-loop-key
invariant-loop-key g l = record {
  names : open_in l.names ≡ open_in l.fn.names;
  keeps : Grows l.fn.pool l.pool;
  stands : Lasting l.pool (λ later. map (key_for l.self.functions.now (open_in l.fn.names)) l.keys ≡ map (key_in later) l.found ++ map (key_for l.self.functions.now (open_in l.fn.names)) (drop l.key-index l.keys));
}
