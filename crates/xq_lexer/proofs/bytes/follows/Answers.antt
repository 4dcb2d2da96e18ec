use Rattle.std.proofs.Common.{◌≤◌, ◌+◌, length, rules, arith}
use Rattle.std.proofs.lemmas.Grind.{common_steps}
use Rattle.xq_lexer.proofs.Runs.{follows_inside, follows_end}
use Rattle.xq_lexer.proofs.bytes.follows.Goals as goal

pub returns-clause-inside : goal.returns-clause-inside
returns-clause-inside c = λ z t.
    let done : length c.args.word.now ≤ c.loop-i.i = first_of (search rules, grind (arith, common_steps)) in
    follows_inside c.args.word.now c.args.text.now c.args.at c.requires z (follows_end c.args.word.now c.args.text.now c.loop-i.i (c.args.at + c.loop-i.i) _ done c.loop-i.invariant)
