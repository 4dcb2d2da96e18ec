use Rattle.std.proofs.Common.{◌≤◌, length, arith}
use Rattle.core_normal.proofs.ContentsMade.{values_start, values_turn, values_end}
use Rattle.core_normal.proofs.maker.Maker.values.Goals as goal

pub loop-part-init : goal.loop-part-init
loop-part-init g c = values_start _ _ _ _ c.new-made.ensures

pub loop-part-preserved : goal.loop-part-preserved
loop-part-preserved g c = values_turn _ _ _ _ _ c.part-item.result _ _ _ c.loop-part-test.true c.part-item.is c.in_ok-push.ensures.ok c.loop-part.invariant c.in_ok-core.ensures

pub returns : goal.returns
returns g c =
    let done : length c.args.parts.now ≤ c.loop-part.part-index = omega arith in
    values_end _ _ _ _ _ _ done c.loop-part.invariant
