use Rattle.std.proofs.Common.{◌≡◌, take, map}
use Rattle.lift_prims.specs.Listed.{pair_in}
use Rattle.lift_prims.proofs.ops.pairs.Given as goal

abbrev pub invariant-loop-pair : goal.invariant-loop-pair
invariant-loop-pair l = l.out ≡ map pair_in (take l.pair-index l.all)
