use Rattle.core_normal.proofs.knot.+norm.Given as goal

abbrev pub decreases-norm : goal.decreases-norm
decreases-norm l = l.levels
