use Rattle.std.proofs.Common.{◌≡◌, drop}
use Rattle.lift_prims.specs.Scopes.{look, scope_of}
use Rattle.lift_prims.proofs.carry.look_up.Given as goal

abbrev pub invariant-loop-bound : goal.invariant-loop-bound
invariant-loop-bound l = look l.found (drop l.bound-index l.scope) l.var ≡ scope_of l.scope l.var
