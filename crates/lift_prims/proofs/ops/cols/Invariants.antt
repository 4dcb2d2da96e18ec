use Rattle.std.proofs.Common.{◌≡◌, take, map}
use Rattle.lift_laws.specs.States.{column}
use Rattle.lift_prims.proofs.ops.cols.Given as goal

abbrev pub invariant-loop-col : goal.invariant-loop-col
invariant-loop-col l = l.out ≡ map column (take l.col-index l.all)
