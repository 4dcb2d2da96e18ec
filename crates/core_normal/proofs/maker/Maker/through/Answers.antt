use Rattle.core_normal.proofs.StepsMade.{through_made}
use Rattle.core_normal.proofs.maker.Maker.through.Goals as goal

pub returns : goal.returns
returns g c = through_made _ _ _ _ _ _ _ c.in_ok-items.ensures c.in_ok-body.ensures c.in_ok-core.ensures
