use Rattle.std.proofs.Common.{◌≤◌, length, arith}
use Rattle.core_normal.proofs.ListsMade.{all_start, all_turn, all_end}
use Rattle.core_normal.proofs.maker.Maker.all.Goals as goal

pub loop-e-init : goal.loop-e-init
loop-e-init g c = all_start _ _ _ c.new-made.ensures

pub loop-e-preserved : goal.loop-e-preserved
loop-e-preserved g c = all_turn _ _ _ c.e-item.result _ _ _ c.loop-e-test.true c.e-item.is c.in_ok-push.ensures.ok c.loop-e.invariant c.in_ok-core.ensures

pub returns : goal.returns
returns g c =
    let done : length c.args.es.now ≤ c.loop-e.e-index = omega arith in
    all_end _ _ _ _ done c.loop-e.invariant
