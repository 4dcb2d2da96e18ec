use Rattle.core_normal.proofs.laws.order_is_enough.Goals as goal
use Rattle.core_normal.proofs.OrderedBodies.{query_core}

pub returns : goal.returns
returns c = query_core
