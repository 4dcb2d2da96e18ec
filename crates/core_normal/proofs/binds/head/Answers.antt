use Rattle.std.proofs.Common.{sym, ap, ◌∙◌}
use Rattle.core_meaning.specs.Erasure.{core_of}
use Rattle.core_normal.specs.Rows.{headed}
use Rattle.core_normal.proofs.binds.head.Goals as goal

pub returns-in_ok-core-in-None : goal.returns-in_ok-core-in-None
returns-in_ok-core-in-None c = λ t. c.in_ok-core-in-None.ensures t ∙ ap (λ q. headed c.args.offset q c.args.y (core_of t c.args.seq) (core_of t c.args.body)) (sym c.in-None.is)

pub returns-in_ok-core-in-Some : goal.returns-in_ok-core-in-Some
returns-in_ok-core-in-Some c = λ t. c.in_ok-core-in-Some.ensures t ∙ ap (λ q. headed c.args.offset q c.args.y (core_of t c.args.seq) (core_of t c.args.body)) (sym c.in-Some.is)
