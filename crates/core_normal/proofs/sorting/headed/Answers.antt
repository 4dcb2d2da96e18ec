use Rattle.std.proofs.Common.{sym, ap, ◌∙◌}
use Rattle.core_meaning.specs.Erasure.{core_of}
use Rattle.core_normal.specs.Rows.{bind_of}
use Rattle.core_normal.proofs.sorting.headed.Goals as goal

pub returns-in_ok-bind-in-None : goal.returns-in_ok-bind-in-None
returns-in_ok-bind-in-None c = λ t. c.in_ok-bind-in-None.ensures t ∙ ap (λ q. bind_of q c.args.y (core_of t c.args.value)) (sym c.in-None.is)

pub returns-in_ok-bind-in-Some : goal.returns-in_ok-bind-in-Some
returns-in_ok-bind-in-Some c = λ t. c.in_ok-bind-in-Some.ensures t ∙ ap (λ q. bind_of q c.args.y (core_of t c.args.value)) (sym c.in-Some.is)
