use Rattle.std.proofs.Common.{◌≤◌, length, arith}
use Rattle.core_normal.proofs.SortsMade.{keys_start, keys_turn, keys_end}
use Rattle.core_normal.proofs.maker.Maker.sort_keys.Goals as goal

pub loop-key-init : goal.loop-key-init
loop-key-init g c = keys_start _ _ _ c.new-made.ensures

pub loop-key-preserved : goal.loop-key-preserved
loop-key-preserved g c = keys_turn _ _ _ c.key-item.result _ _ _ c.loop-key-test.true c.key-item.is c.in_ok-push.ensures.ok c.loop-key.invariant c.in_ok-one.ensures

pub returns : goal.returns
returns g c =
    let done : length c.args.keys.now ≤ c.loop-key.key-index = omega arith in
    keys_end _ _ _ _ done c.loop-key.invariant
