use Rattle.std.proofs.Common.{◌≤◌, length, arith}
use Rattle.core_normal.proofs.ListsMade.{rights_start, rights_turn, rights_end}
use Rattle.core_normal.proofs.maker.Maker.rights.Goals as goal

pub loop-right-init : goal.loop-right-init
loop-right-init g c = rights_start _ _ _ _ _

pub loop-right-preserved : goal.loop-right-preserved
loop-right-preserved g c = rights_turn _ _ _ _ _ _ c.right-item.result _ _ c.loop-right-test.true c.right-item.is c.loop-right.invariant c.in_ok-left.ensures

pub returns : goal.returns
returns g c =
    let done : length c.args.rights.now ≤ c.loop-right.right-index = omega arith in
    rights_end _ _ _ _ _ _ _ done c.loop-right.invariant
