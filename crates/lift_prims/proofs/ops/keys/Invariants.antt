use Rattle.std.proofs.Common.{◌≡◌, take, map}
use Rattle.lift_prims.specs.Listed.{key_in}
use Rattle.lift_prims.proofs.ops.keys.Given as goal

abbrev pub invariant-loop-col : goal.invariant-loop-col
invariant-loop-col l = l.out ≡ map key_in (take l.col-index l.all)
