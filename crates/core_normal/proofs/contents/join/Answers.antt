use Rattle.std.proofs.Common.{sym, ap, ◌∙◌}
use Rattle.core_meaning.specs.Erasure.{core_of}
use Rattle.core_normal.specs.Contents.{core_at, joined}
use Rattle.core_normal.proofs.contents.join.Goals as goal

pub returns-in_ok-core-in-Some : goal.returns-in_ok-core-in-Some
returns-in_ok-core-in-Some c = λ t. c.in_ok-core-in-Some.ensures t ∙ ap (λ q. joined c.args.offset (core_at t q) (core_of t c.args.a)) (sym c.in-Some.is)
