use Rattle.std.proofs.Common.{◌≡◌, ◌+◌, drop}
use Rattle.core_normal.specs.Standing.{no_value, vars_in}
use Rattle.core_normal.specs.Templating.{global_values, var_count}
use Rattle.core_normal.proofs.prolog.globals.Given as goal

abbrev pub invariant-loop-declaration : goal.invariant-loop-declaration
invariant-loop-declaration l = record {
  vars : global_values l.declarations 0 no_value ≡ global_values (drop l.declaration-index l.declarations) l.j (vars_in l.vars);
  count : var_count l.declarations ≡ l.j + var_count (drop l.declaration-index l.declarations);
}
