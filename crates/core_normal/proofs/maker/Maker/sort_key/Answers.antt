use Rattle.core_normal.proofs.SortsMade.{key_made}
use Rattle.core_normal.proofs.maker.Maker.sort_key.Goals as goal

pub returns : goal.returns
returns g c = key_made _ _ _ _ _ c.get-inner.ensures c.in_ok-value.ensures c.in_ok-made.ensures
