use Rattle.std.proofs.Common.{◌≡◌, ◌++◌, drop, map}
use Rattle.doc_table.specs.OtherTexts.{Grows}
use Rattle.core_scope.specs.Open.{open_in}
use Rattle.core_scope.specs.Standing.{Lasting}
use Rattle.core_scope.specs.Matching.{clause_in, clauses_for}
use Rattle.core_scope.specs.Telling.{entered_clauses}
use Rattle.core_scope.proofs.resolving.Resolver.clauses.Given as goal

abbrev pub invariant-loop-clause : goal.invariant-loop-clause
invariant-loop-clause g l = record {
  names : entered_clauses (drop l.clause-index l.clauses) (open_in l.names) ≡ entered_clauses l.clauses (open_in l.fn.names);
  keeps : Grows l.fn.pool l.pool;
  stands : Lasting l.pool (λ later. clauses_for l.self.functions.now (open_in l.fn.names) l.clauses ≡ map (clause_in later) l.found ++ clauses_for l.self.functions.now (open_in l.names) (drop l.clause-index l.clauses));
}
