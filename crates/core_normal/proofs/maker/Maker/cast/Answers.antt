use Rattle.core_normal.proofs.Made.{cast_made}
use Rattle.core_normal.proofs.maker.Maker.cast.Goals as goal

pub returns : goal.returns
returns g c = cast_made _ _ _ _ c.in_ok-operand.ensures c.in_ok-core.ensures
