use Rattle.std.proofs.Common.{◌≡◌, ◌++◌, drop, map}
use Rattle.doc_table.specs.OtherTexts.{Grows}
use Rattle.core_scope.specs.Open.{open_in}
use Rattle.core_scope.specs.Standing.{Lasting}
use Rattle.core_scope.specs.Matching.{for_in, fors_for}
use Rattle.core_scope.specs.Telling.{entered_fors}
use Rattle.core_scope.proofs.resolving.Resolver.fors.Given as goal

abbrev pub invariant-loop-bind : goal.invariant-loop-bind
invariant-loop-bind g l = record {
  names : entered_fors (drop l.bind-index l.fors) (open_in l.names) ≡ entered_fors l.fors (open_in l.fn.names);
  keeps : Grows l.fn.pool l.pool;
  stands : Lasting l.pool (λ later. fors_for l.self.functions.now (open_in l.fn.names) l.fors ≡ map (for_in later) l.found ++ fors_for l.self.functions.now (open_in l.names) (drop l.bind-index l.fors));
}
