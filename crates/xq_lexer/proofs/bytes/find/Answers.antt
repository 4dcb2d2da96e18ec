use Rattle.std.proofs.Common.{rules, arith}
use Rattle.std.proofs.lemmas.Grind.{common_steps}
use Rattle.xq_ast.specs.Bytes.{found}
use Rattle.xq_lexer.proofs.Turns.{one_more}
use Rattle.xq_lexer.proofs.bytes.find.Goals as goal

pub loop-i-preserved : goal.loop-i-preserved
unfolding found
loop-i-preserved c =
    let e = one_more (λ n. found c.args.word.now c.args.text.now n c.loop-i.i) _ c.loop-i.i c.loop-i-test.true c.loop-i.invariant in
    first_of (search rules, grind (arith, common_steps))
