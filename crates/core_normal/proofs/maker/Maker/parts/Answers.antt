use Rattle.std.proofs.Common.{◌≤◌, length, arith}
use Rattle.core_normal.proofs.ContentsMade.{parts_start, parts_turn, parts_end}
use Rattle.core_normal.proofs.maker.Maker.parts.Goals as goal

pub loop-part-init : goal.loop-part-init
loop-part-init g c = parts_start _ _ _ _

pub loop-part-preserved : goal.loop-part-preserved
loop-part-preserved g c = parts_turn _ _ _ _ _ c.part-item.result _ _ _ _ c.loop-part-test.true c.part-item.is c.is_behind-behind.ensures c.loop-part.invariant c.in_ok-left.ensures

pub returns : goal.returns
returns g c =
    let done : length c.args.parts.now ≤ c.loop-part.part-index = omega arith in
    parts_end _ _ _ _ _ _ _ done c.loop-part.invariant
