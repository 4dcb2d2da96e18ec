use Rattle.std.proofs.Common.{◌≤◌, length, arith}
use Rattle.core_normal.proofs.StepsMade.{predicates_start, predicates_turn, predicates_end}
use Rattle.core_normal.proofs.maker.Maker.predicates.Goals as goal

pub loop-condition-init : goal.loop-condition-init
loop-condition-init g c = predicates_start _ _ _ _

pub loop-condition-preserved : goal.loop-condition-preserved
loop-condition-preserved g c = predicates_turn _ _ _ _ _ c.condition-item.result _ _ c.loop-condition-test.true c.condition-item.is c.loop-condition.invariant c.in_ok-left.ensures

pub returns : goal.returns
returns g c =
    let done : length c.args.conditions.now ≤ c.loop-condition.condition-index = omega arith in
    predicates_end _ _ _ _ _ _ done c.loop-condition.invariant
