use Rattle.std.proofs.Common.{◌≡◌, ◌++◌, drop, map}
use Rattle.doc_table.specs.OtherTexts.{Grows}
use Rattle.core_scope.specs.Open.{open_in}
use Rattle.core_scope.specs.Standing.{Lasting}
use Rattle.core_scope.specs.Declaring.{param_in, param_for}
use Rattle.core_scope.specs.Gathering.{entered_params}
use Rattle.core_scope.proofs.resolved_query.params.Given as goal

abbrev pub invariant-loop-one : goal.invariant-loop-one
invariant-loop-one l = record {
  names : entered_params (drop l.one-index l.from) (open_in l.names) ≡ entered_params l.from (open_in l.fn.names);
  keeps : Grows l.fn.pool l.pool;
  stands : Lasting l.pool (λ later. map param_for l.from ≡ map (param_in later) l.found ++ map param_for (drop l.one-index l.from));
}
