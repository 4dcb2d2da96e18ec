use Rattle.xq_types.proofs.Scoping.{back}
use Rattle.xq_types.proofs.scope.Scope.enter.Goals as goal

pub returns-clause-before : goal.returns-clause-before
returns-clause-before c = back _ _ _ _ _ c.in_ok-set.ensures.ok c.get-before.ensures
