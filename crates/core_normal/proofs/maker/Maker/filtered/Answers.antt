use Rattle.core_normal.proofs.StepsMade.{filtered_made}
use Rattle.core_normal.proofs.maker.Maker.filtered.Goals as goal

pub returns : goal.returns
returns g c = filtered_made _ _ _ _ _ _ c.in_ok-e.ensures c.in_ok-core.ensures
