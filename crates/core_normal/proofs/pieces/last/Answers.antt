use Rattle.std.proofs.Common.{◌∙◌, sym, ap}
use Rattle.core_normal.specs.Held.{focus_of}
use Rattle.core_normal.specs.Pieces.{last_at}
use Rattle.core_normal.proofs.pieces.last.Goals as goal

pub returns-in-None : goal.returns-in-None
unfolding last_at
returns-in-None c = λ t. c.fail.ensures t ∙ ap (λ f. last_at c.args.offset (focus_of f)) (sym c.in-None.is)

pub returns-in-Some : goal.returns-in-Some
unfolding last_at
returns-in-Some c = λ t. c.var.ensures t ∙ ap (λ f. last_at c.args.offset (focus_of f)) (sym c.in-Some.is)
