use Rattle.core_normal.proofs.ListsMade.{chain_made}
use Rattle.core_normal.proofs.maker.Maker.chain.Goals as goal

pub returns : goal.returns
returns g c = chain_made _ _ _ _ _ _ _ c.in_ok-operand.ensures c.place-at.ensures c.in_ok-core.ensures
