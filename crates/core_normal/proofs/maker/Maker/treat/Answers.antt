use Rattle.core_normal.proofs.Made.{treat_made}
use Rattle.core_normal.proofs.maker.Maker.treat.Goals as goal

pub returns : goal.returns
returns g c = treat_made _ _ _ c.in_ok-operand.ensures (λ t. simp (c.in_ok-core.ensures, c.seq_type-ty.ensures))
