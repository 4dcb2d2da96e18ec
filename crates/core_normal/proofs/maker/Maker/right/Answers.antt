use Rattle.core_normal.proofs.ListsMade.{right_made}
use Rattle.core_normal.proofs.maker.Maker.right.Goals as goal

pub returns : goal.returns
returns g c = right_made _ _ _ _ _ _ _ c.in_ok-core.ensures (λ t. simp (c.in_ok-whole.ensures, c.place.ensures t))
