use Rattle.std.proofs.Common.{◌≡◌, ◌++◌, drop, map}
use Rattle.doc_table.specs.OtherTexts.{Grows}
use Rattle.core_scope.specs.Open.{open_in}
use Rattle.core_scope.specs.Standing.{Lasting}
use Rattle.core_scope.specs.Declaring.{declaration_in, declarations_for, behind_all}
use Rattle.core_scope.proofs.resolved_query.declarations.Given as goal

abbrev pub invariant-loop-one : goal.invariant-loop-one
invariant-loop-one l = record {
  names : behind_all (drop l.one-index l.from) (record { open' = open_in l.names; next = l.number }) ≡ behind_all l.from (record { open' = open_in l.fn.names; next = 0 });
  keeps : Grows l.fn.pool l.pool;
  stands : Lasting l.pool (λ later. declarations_for l.functions (record { open' = open_in l.fn.names; next = 0 }) l.from ≡ map (declaration_in later) l.found ++ declarations_for l.functions (record { open' = open_in l.names; next = l.number }) (drop l.one-index l.from));
}
