use Rattle.std.proofs.Common.{◌≡◌, ◌++◌, drop, map}
use Rattle.doc_table.specs.OtherTexts.{Grows}
use Rattle.core_scope.specs.Open.{open_in}
use Rattle.core_scope.specs.Standing.{Lasting}
use Rattle.core_scope.specs.Matching.{quant_in, quants_for}
use Rattle.core_scope.specs.Telling.{entered_quants}
use Rattle.core_scope.proofs.resolving.Resolver.quants.Given as goal

abbrev pub invariant-loop-bind : goal.invariant-loop-bind
invariant-loop-bind g l = record {
  names : entered_quants (drop l.bind-index l.quants) (open_in l.names) ≡ entered_quants l.quants (open_in l.fn.names);
  keeps : Grows l.fn.pool l.pool;
  stands : Lasting l.pool (λ later. quants_for l.self.functions.now (open_in l.fn.names) l.quants ≡ map (quant_in later) l.found ++ quants_for l.self.functions.now (open_in l.names) (drop l.bind-index l.quants));
}
