use Rattle.core_normal.proofs.ContentsMade.{element_made}
use Rattle.core_normal.proofs.maker.Maker.element.Goals as goal

pub returns : goal.returns
returns g c = element_made _ _ _ _ _ _ _ _ _ c.in_ok-first.ensures c.in_ok-all.ensures c.gathered-content.ensures (λ t. simp (c.in_ok-core.ensures, c.text-literal.ensures))
