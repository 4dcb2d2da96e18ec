use Rattle.std.proofs.Common.{◌≡◌, drop}
use Rattle.core_scope.specs.Held.{names_in}
use Rattle.core_scope.specs.Names.{no_names}
use Rattle.core_scope.specs.Open.{open_in}
use Rattle.core_scope.specs.Gathering.{told_params, entered_params}
use Rattle.core_scope.proofs.prolog.walk_params.Given as goal

abbrev pub invariant-loop-param : goal.invariant-loop-param
invariant-loop-param l = record {
  found : told_params (drop l.param-index l.params) (names_in l.seen) l.found ≡ told_params l.params no_names l.fn.found;
  names : entered_params (drop l.param-index l.params) (open_in l.names) ≡ entered_params l.params (open_in l.fn.names);
}
