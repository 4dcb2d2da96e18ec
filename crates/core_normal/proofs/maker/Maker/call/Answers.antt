use Rattle.core_normal.proofs.CallsMade.{call_made}
use Rattle.core_normal.proofs.maker.Maker.call.Goals as goal

pub returns : goal.returns
returns g c = call_made _ _ _ _ _ c.in_ok-args.ensures c.in_ok-core.ensures
