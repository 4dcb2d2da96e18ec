use Rattle.std.proofs.Common.{refl}
use Rattle.core_normal.proofs.LoopsMade.{flwor_made}
use Rattle.core_normal.proofs.maker.Maker.flwor.Goals as goal

pub returns : goal.returns
returns g c = flwor_made _ _ _ _ _ _ _ _ _ refl c.as_slice-all.ensures.value c.in_ok-binds.ensures c.in_ok-core.ensures
