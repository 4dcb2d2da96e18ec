use Rattle.core_normal.proofs.Made.{conditional_made}
use Rattle.core_normal.proofs.maker.Maker.conditional.Goals as goal

pub returns : goal.returns
returns g c =
    conditional_made _ _ _ _ c.in_ok-test.ensures c.in_ok-yes.ensures c.in_ok-no.ensures
    (λ t. simp (c.in_ok-core.ensures, c.in_ok-truth.ensures, c.place.ensures t))
