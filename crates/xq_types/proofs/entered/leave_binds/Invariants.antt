use Rattle.std.proofs.Common.{◌≡◌, length}
use Rattle.xq_types.specs.Held.{typ_of}
use Rattle.xq_types.specs.Entered.{around, before}
use Rattle.xq_types.specs.Scopes.{types_in}
use Rattle.xq_types.proofs.entered.leave_binds.Given as goal

abbrev pub decreases-loop-bind : goal.decreases-loop-bind
decreases-loop-bind l = length l.binds

abbrev pub invariant-loop-bind : goal.invariant-loop-bind
invariant-loop-bind l = record {
  value : around l.binds (typ_of l.found) ≡ around l.fn.binds (typ_of l.fn.t);
  types : before l.binds (types_in l.scope) ≡ before l.fn.binds (types_in l.fn.scope);
}
