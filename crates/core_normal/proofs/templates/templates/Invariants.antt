use Rattle.std.proofs.Common.{◌≡◌}
use Rattle.core_normal.specs.Standing.{vars_in}
use Rattle.core_normal.specs.Templating.{AreBodies}
use Rattle.core_normal.proofs.templates.templates.Given as goal

abbrev pub invariant-loop-k : goal.invariant-loop-k
invariant-loop-k g l = record {
  made : AreBodies l.making.declarations.now l.bodies;
  same : vars_in l.state.vars ≡ vars_in l.fn.state.vars;
}
