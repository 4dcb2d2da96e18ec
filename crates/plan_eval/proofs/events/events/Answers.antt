use Rattle.std.proofs.Common.{arith}
use Rattle.plan_eval.proofs.EventLaws.{events-end}
use Rattle.plan_eval.proofs.events.events.Goals as goal

pub returns : goal.returns
returns c =
    events-end c.args.plan.now c.in_ok-turns.turns.items c.deref.result.now c.in_ok-index.index c.checks-checks.result.now c.loop-turn.turn c.loop-turn.out.items c.push_turn-2.new.out.items c.in_ok-index.ensures c.deref.ensures.value c.in_ok-turns.ensures c.checks-checks.ensures
    (omega (arith, c.loop-turn-test.false, c.loop-turn.auto.turn-end)) c.loop-turn.invariant c.in_ok-push_turn-2.ensures
