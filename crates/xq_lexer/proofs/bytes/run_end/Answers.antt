use Rattle.std.proofs.Common.{rules, arith}
use Rattle.std.proofs.lemmas.Grind.{common_steps}
use Rattle.xq_ast.specs.Bytes.{ends}
use Rattle.xq_lexer.specs.Classes.{class_test}
use Rattle.xq_lexer.proofs.Turns.{one_more}
use Rattle.xq_lexer.proofs.bytes.run_end.Goals as goal

pub loop-i-preserved : goal.loop-i-preserved
unfolding ends
loop-i-preserved c =
    let e = one_more (λ n. ends (class_test c.args.class) c.args.text.now n c.loop-i.i) _ c.loop-i.i c.loop-i-test.true c.loop-i.invariant in
    first_of (search rules, grind (arith, common_steps))
