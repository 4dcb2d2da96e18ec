use Rattle.std.proofs.Common.{◌≡◌, ◌≤◌, ◌-◌, length, true, false, rules, arith}
use Rattle.std.proofs.lemmas.Grind.{common_steps}
use Rattle.xq_ast.specs.Bytes.{char_at}
use Rattle.xq_lexer.specs.Classes.{name_test}
use Rattle.xq_lexer.proofs.Scalars.{some_char}
use Rattle.xq_lexer.proofs.Runs.{char_goes, char_stops}
use Rattle.xq_lexer.proofs.bytes.name_run_end.Goals as goal

pub returns-then-not-goes_on-clause-end : goal.returns-then-not-goes_on-clause-end
returns-then-not-goes_on-clause-end c =
    let t : name_test c.args.with_colon (char_at c.args.text.now c.loop-turn.place) ≡ false = first_of (search rules, grind (arith, common_steps)) in
    char_stops (name_test c.args.with_colon) c.args.text.now (length c.args.text.now - c.loop-turn._turn) c.loop-turn.place _ t c.loop-turn.invariant.2

pub loop-turn-preserved : goal.loop-turn-preserved
loop-turn-preserved c =
    let t : name_test c.args.with_colon (char_at c.args.text.now c.loop-turn.place) ≡ true = first_of (search rules, grind (arith, common_steps)) in
    let e = char_goes (name_test c.args.with_colon) c.args.text.now (length c.args.text.now) c.loop-turn._turn c.loop-turn.place _ c.loop-turn-test.true t c.loop-turn.invariant.2 in
    let s = some_char c.args.with_colon (char_at c.args.text.now c.loop-turn.place) t in
    first_of (search rules, grind (arith, common_steps))
