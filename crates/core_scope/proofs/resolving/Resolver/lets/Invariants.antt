use Rattle.std.proofs.Common.{◌≡◌, ◌++◌, drop, map}
use Rattle.doc_table.specs.OtherTexts.{Grows}
use Rattle.core_scope.specs.Open.{open_in}
use Rattle.core_scope.specs.Standing.{Lasting}
use Rattle.core_scope.specs.Matching.{let_in, lets_for}
use Rattle.core_scope.specs.Telling.{entered_lets}
use Rattle.core_scope.proofs.resolving.Resolver.lets.Given as goal

abbrev pub invariant-loop-bind : goal.invariant-loop-bind
invariant-loop-bind g l = record {
  names : entered_lets (drop l.bind-index l.lets) (open_in l.names) ≡ entered_lets l.lets (open_in l.fn.names);
  keeps : Grows l.fn.pool l.pool;
  stands : Lasting l.pool (λ later. lets_for l.self.functions.now (open_in l.fn.names) l.lets ≡ map (let_in later) l.found ++ lets_for l.self.functions.now (open_in l.names) (drop l.bind-index l.lets));
}
