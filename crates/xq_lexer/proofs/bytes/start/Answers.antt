use Rattle.std.proofs.Common.{rules, arith}
use Rattle.std.proofs.lemmas.Grind.{common_steps}
use Rattle.xq_ast.specs.Bytes.{skip_from}
use Rattle.xq_lexer.proofs.Turns.{one_more}
use Rattle.xq_lexer.proofs.bytes.start.Goals as goal

pub loop-turn-preserved : goal.loop-turn-preserved
unfolding skip_from
loop-turn-preserved c =
    let e = one_more (λ n. skip_from c.args.text.now n c.loop-turn.skip) _ c.loop-turn._turn c.loop-turn-test.true c.loop-turn.invariant.1 in
    first_of (search rules, grind (arith, common_steps))
