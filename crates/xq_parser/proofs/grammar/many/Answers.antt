use Rattle.std.proofs.Common.{◌≡◌, true, false, arith}
use Rattle.std.proofs.lemmas.Grind.{common_steps}
use Rattle.xq_ast.specs.Look.{syms, stands_one}
use Rattle.xq_parser.proofs.Steps.{turn_goes, turn_failed, turn_stops, no_turn}
use Rattle.xq_parser.proofs.grammar.many.Goals as goal

pub returns-then-not-stands_one : goal.returns-then-not-stands_one
returns-then-not-stands_one g c = λ p r.
    let test : stands_one c.args.text.now (syms c.args.due c.args.kinds.now) c.loop-turn.end ≡ false = grind (arith, common_steps) in
    turn_stops _ _ p _ _ _ test (c.loop-turn.invariant p r)

pub returns-in-Err : goal.returns-in-Err
returns-in-Err g c = λ p r.
    let test : stands_one c.args.text.now (syms c.args.due c.args.kinds.now) c.loop-turn.end ≡ true = grind (arith, common_steps) in
    turn_failed _ _ p _ _ _ _ c.in-Err.e c.loop-turn-test.true test (r _ _ c.in-Err.ensures) (c.loop-turn.invariant p r)

pub loop-turn-preserved : goal.loop-turn-preserved
loop-turn-preserved g c = λ p r.
    let test : stands_one c.args.text.now (syms c.args.due c.args.kinds.now) c.loop-turn.end ≡ true = grind (arith, common_steps) in
    rw c.in_ok-push-in-Ok.ensures.ok (turn_goes _ _ p _ _ _ _ _ _ c.loop-turn-test.true test (r _ _ c.in-Ok.ensures) (c.loop-turn.invariant p r))

pub returns : goal.returns
returns g c = λ p r. no_turn _ _ p _ _ _ _ c.loop-turn-test.false (c.loop-turn.invariant p r)
