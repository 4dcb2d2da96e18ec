use Rattle.std.proofs.Common.{rules, arith}
use Rattle.std.proofs.lemmas.Grind.{common_steps}
use Rattle.xq_ast.specs.Values.{string_from}
use Rattle.xq_lexer.proofs.Turns.{one_more}
use Rattle.xq_lexer.proofs.references.string_end.Goals as goal

pub loop-turn-preserved : goal.loop-turn-preserved
unfolding string_from
loop-turn-preserved c =
    let e = one_more (λ n. string_from c.byte-quote.result c.args.text.now n c.loop-turn.place) _ c.loop-turn._turn c.loop-turn-test.true c.loop-turn.invariant.1 in
    first_of (search rules, grind (arith, common_steps))
