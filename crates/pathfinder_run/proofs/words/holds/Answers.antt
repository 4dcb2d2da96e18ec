use Rattle.std.proofs.Common.{string_bytes, rules, arith}
use Rattle.std.proofs.lemmas.Grind.{common_steps}
use Rattle.pathfinder_run.proofs.Repeats.{holds_at, none_more}
use Rattle.pathfinder_run.proofs.words.holds.Goals as goal

pub returns-then-eq : goal.returns-then-eq
returns-then-eq c = (
  λ _. holds_at string_bytes c.args.words.now c.args.word.now c.args.words.now c.loop-other.other-index c.other-item.result c.loop-other-test.true
      (first_of (search rules, grind (arith, common_steps))),
  λ _. search rules,
)

pub loop-other-preserved : goal.loop-other-preserved
loop-other-preserved c = none_more string_bytes c.args.words.now c.args.word.now c.loop-other.other-index c.other-item.result c.loop-other-test.true c.loop-other.invariant
    (λ e. first_of (search rules, grind (arith, common_steps)))
