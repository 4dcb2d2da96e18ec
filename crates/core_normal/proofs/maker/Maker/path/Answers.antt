use Rattle.core_normal.proofs.StepsMade.{path_made}
use Rattle.core_normal.proofs.maker.Maker.path.Goals as goal

pub returns : goal.returns
returns g c = path_made _ _ _ _ _ _ c.in_ok-made.ensures c.in_ok-core.ensures
