use Rattle.std.proofs.Common.{◌≡◌, ◌-◌, suc, length, subst, arith}
use Rattle.plan_eval.proofs.TurnLaws.{TurnsFrom, turns-begin, turns-step, turns-end, turns-of-input}
use Rattle.plan_eval.proofs.turns.turns.Goals as goal

pub loop-k-init : goal.loop-k-init
loop-k-init c =
    let many : c.len-k.result ≡ length c.in_ok-turns.turns.items = omega (arith, c.len-k.ensures, c.in_ok-turns.turns.ok.0) in
    turns-begin c.args.plan.now c.len-k.result c.in_ok-turns.turns.items c.in_ok-turns.ensures many

pub loop-k-preserved : goal.loop-k-preserved
loop-k-preserved c =
    let next : c.loop-k.k ≡ suc (c.loop-k.k - 1) = omega (arith, c.loop-k-test.true) in
    turns-step c.args.plan.now (c.loop-k.k - 1) c.op-op.result c.index-turn.result.now _ c.loop-k.turns.items c.lower.new.turns.items c.lower-in-loop-k.new.turns.items c.validity.ensures
    (subst (λ k. TurnsFrom c.args.plan.now k c.loop-k.turns.items) next c.loop-k.invariant) c.op-op.ensures c.index-turn.ensures
    (turns-of-input _ _ _ _ _ c.first_input.ensures c.lower.ensures) (turns-of-input _ _ _ _ _ c.second_input.ensures c.lower-in-loop-k.ensures)

pub returns : goal.returns
returns c =
    let none : c.loop-k.k ≡ 0 = omega (arith, c.loop-k-test.false) in
    turns-end c.args.plan.now c.loop-k.turns.items (subst (λ k. TurnsFrom c.args.plan.now k c.loop-k.turns.items) none c.loop-k.invariant)
