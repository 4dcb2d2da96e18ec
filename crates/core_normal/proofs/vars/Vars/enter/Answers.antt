use Rattle.core_normal.proofs.Valued.{back}
use Rattle.core_normal.proofs.vars.Vars.enter.Goals as goal

pub returns-clause-before : goal.returns-clause-before
returns-clause-before c = back _ _ _ _ _ c.in_ok-set.ensures c.get-before.ensures
