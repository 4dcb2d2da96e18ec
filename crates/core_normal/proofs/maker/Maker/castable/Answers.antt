use Rattle.core_normal.proofs.Made.{castable_made}
use Rattle.core_normal.proofs.maker.Maker.castable.Goals as goal

pub returns : goal.returns
returns g c = castable_made _ _ _ _ c.in_ok-operand.ensures c.in_ok-core.ensures
