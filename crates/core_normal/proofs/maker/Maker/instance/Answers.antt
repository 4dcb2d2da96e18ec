use Rattle.core_normal.proofs.Made.{instance_made}
use Rattle.core_normal.proofs.maker.Maker.instance.Goals as goal

pub returns : goal.returns
returns g c = instance_made _ _ _ c.in_ok-operand.ensures (λ t. simp (c.in_ok-core.ensures, c.seq_type-ty.ensures))
