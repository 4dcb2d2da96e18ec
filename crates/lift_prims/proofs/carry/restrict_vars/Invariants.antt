use Rattle.std.proofs.Common.{take}
use Rattle.lift_laws.specs.Shapes.{restrict_rows}
use Rattle.lift_prims.specs.Scopes.{scope_of}
use Rattle.lift_prims.proofs.Scoped.{AllCarried}
use Rattle.lift_prims.proofs.carry.restrict_vars.Given as goal

abbrev pub invariant-loop-name : goal.invariant-loop-name
invariant-loop-name l = AllCarried restrict_rows l.fn.plan l.plan l.looped (scope_of l.scope) (scope_of l.inner.items) (take l.name-index l.names)
