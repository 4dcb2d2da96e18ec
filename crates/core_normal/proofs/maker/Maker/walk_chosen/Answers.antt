use Rattle.core_normal.proofs.StepsMade.{chosen_made}
use Rattle.core_normal.proofs.maker.Maker.walk_chosen.Goals as goal

pub returns : goal.returns
returns g c =
    chosen_made _ _ _ _ _ _ c.in_ok-turned.turned _ _ c.in_ok-item.ensures c.in_ok-place.ensures
    (λ t. simp (c.in_ok-turned.ensures, c.in_ok-plain.ensures, c.var-here.ensures, c.node_test-tested.ensures)) c.in_ok-chosen.ensures
    (λ t. simp (c.in_ok-core.ensures, c.in_ok-each.ensures))
