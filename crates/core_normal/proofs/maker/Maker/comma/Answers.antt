use Rattle.std.proofs.Common.{◌≤◌, length, arith}
use Rattle.core_normal.proofs.ListsMade.{comma_start, comma_turn, comma_end}
use Rattle.core_normal.proofs.maker.Maker.comma.Goals as goal

pub loop-e-init : goal.loop-e-init
loop-e-init g c = comma_start _ _ _ _ _ c.in_ok-left.ensures

pub loop-e-preserved : goal.loop-e-preserved
loop-e-preserved g c = comma_turn _ _ _ _ _ c.e-item.result _ _ _ c.loop-e-test.true c.e-item.is c.in_ok-left-2.ensures c.loop-e.invariant c.in_ok-core.ensures

pub returns : goal.returns
returns g c =
    let done : length c.args.more.now ≤ c.loop-e.e-index = omega arith in
    comma_end _ _ _ _ _ _ done c.loop-e.invariant
