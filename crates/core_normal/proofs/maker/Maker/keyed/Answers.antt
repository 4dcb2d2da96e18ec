use Rattle.core_normal.proofs.SortsMade.{keyed_made}
use Rattle.core_normal.proofs.maker.Maker.keyed.Goals as goal

pub returns : goal.returns
returns g c = keyed_made _ _ _ _ _ _ c.in_ok-all.ensures c.in_ok-keys.ensures c.in_ok-body.ensures
