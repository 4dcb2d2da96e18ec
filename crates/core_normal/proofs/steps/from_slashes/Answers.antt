use Rattle.std.proofs.Common.{sym, ap, ◌∙◌}
use Rattle.core_meaning.specs.Erasure.{core_of}
use Rattle.core_normal.specs.Stepping.{behind_slashes}
use Rattle.core_normal.proofs.steps.from_slashes.Goals as goal

pub returns-in_ok-core-in-Two : goal.returns-in_ok-core-in-Two
returns-in_ok-core-in-Two c = λ t. c.in_ok-core-in-Two.ensures t ∙ ap (λ q. behind_slashes q (core_of t c.args.e)) (sym c.in-Two.is)
