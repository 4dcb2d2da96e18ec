use Rattle.core_normal.proofs.LoopsMade.{let_turn_made}
use Rattle.core_normal.proofs.binds.let_turned.Goals as goal

pub returns : goal.returns
returns c = λ t. let_turn_made _ _ _ _ _ _ _ _ _ c.in_ok-y.ensures (c.in_ok-x.ensures t)
