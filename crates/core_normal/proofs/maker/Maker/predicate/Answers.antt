use Rattle.core_normal.proofs.StepsMade.{predicate_made}
use Rattle.core_normal.proofs.maker.Maker.predicate.Goals as goal

pub returns : goal.returns
returns g c = predicate_made _ _ _ _ _ _ c.in_ok-items.ensures c.in_ok-value.ensures c.in_ok-test.ensures c.in_ok-core.ensures
