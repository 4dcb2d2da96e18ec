use Rattle.std.proofs.Common.{◌∙◌, sym, ap}
use Rattle.core_normal.specs.Held.{focus_of}
use Rattle.core_normal.specs.Pieces.{place_at}
use Rattle.core_normal.proofs.pieces.place.Goals as goal

pub returns-in-None : goal.returns-in-None
unfolding place_at
returns-in-None c = λ t. c.fail.ensures t ∙ ap (λ f. place_at c.args.offset (focus_of f)) (sym c.in-None.is)

pub returns-in-Some : goal.returns-in-Some
unfolding place_at
returns-in-Some c = λ t. c.var.ensures t ∙ ap (λ f. place_at c.args.offset (focus_of f)) (sym c.in-Some.is)
