use Rattle.core_normal.proofs.ContentsMade.{attribute_made}
use Rattle.core_normal.proofs.maker.Maker.attribute.Goals as goal

pub returns : goal.returns
returns g c =
    attribute_made _ _ _ _ _ _ _ _ _ c.as_slice-parts.ensures c.in_ok-values.ensures c.attribute_value-value.ensures (λ t. simp (c.in_ok-one.ensures, c.text-name.ensures)) c.in_ok-core.ensures
