use Rattle.std.proofs.Common.{◌-◌, ◌<◌, length, arith}
use Rattle.plan_eval.proofs.TurnLaws.{first-step, check-at}
use Rattle.plan_eval.proofs.turns.first_turns.Goals as goal

pub loop-turn-preserved : goal.loop-turn-preserved
loop-turn-preserved c =
    let small : c.loop-turn.turn - 1 < length c.checks-checks.result.now = omega (arith, c.loop-turn-test.true, c.loop-turn.invariant.0) in
    first-step c.checks-checks.result.now c.args.plan.now.root (length c.args.plan.now.ops) c.loop-turn.turn _ c.loop-turn.turns.items c.lower-in-loop-turn.new.turns.items (omega (arith, c.loop-turn-test.true)) c.loop-turn.invariant.0
    (check-at c.checks-checks.result.now (c.loop-turn.turn - 1) _ small) c.lower-in-loop-turn.ensures c.loop-turn.invariant.1 c.loop-turn.invariant.2
