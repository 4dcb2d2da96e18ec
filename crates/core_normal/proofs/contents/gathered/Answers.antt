use Rattle.std.proofs.Common.{sym, ap, ◌∙◌}
use Rattle.core_normal.specs.Contents.{core_at, or_empty}
use Rattle.core_normal.proofs.contents.gathered.Goals as goal

pub returns-in-None : goal.returns-in-None
returns-in-None c = λ t. c.empty.ensures t ∙ ap (λ q. or_empty c.args.offset (core_at t q)) (sym c.in-None.is)
