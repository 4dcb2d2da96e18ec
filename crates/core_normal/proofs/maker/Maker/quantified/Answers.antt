use Rattle.std.proofs.Common.{refl}
use Rattle.core_normal.proofs.LoopsMade.{quantified_made}
use Rattle.core_normal.proofs.maker.Maker.quantified.Goals as goal

pub returns : goal.returns
returns g c = quantified_made _ _ _ _ _ _ _ _ _ _ refl c.as_slice-all.ensures.value c.in_ok-refs.ensures c.in_ok-inner.ensures c.in_ok-core.ensures
