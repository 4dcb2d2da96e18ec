use Rattle.core_normal.proofs.Made.{signs_made}
use Rattle.core_normal.proofs.maker.Maker.signed.Goals as goal

pub returns : goal.returns
returns g c = signs_made _ _ c.in_ok-operand.ensures c.in_ok-core.ensures
