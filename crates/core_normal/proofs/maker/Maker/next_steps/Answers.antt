use Rattle.std.proofs.Common.{◌≤◌, length, arith}
use Rattle.core_normal.proofs.StepsMade.{behind_start, behind_turn, behind_end}
use Rattle.core_normal.proofs.maker.Maker.next_steps.Goals as goal

pub loop-next-init : goal.loop-next-init
loop-next-init g c = behind_start _ _ _

pub loop-next-preserved : goal.loop-next-preserved
loop-next-preserved g c =
    behind_turn _ _ _ _ c.next-item.result _ c.in_ok-start.start _ c.loop-next-test.true c.next-item.is c.in_ok-start.ensures c.loop-next.invariant c.in_ok-left.ensures

pub returns : goal.returns
returns g c =
    let done : length c.args.behind.now ≤ c.loop-next.next-index = omega arith in
    behind_end _ _ _ _ _ done c.loop-next.invariant
