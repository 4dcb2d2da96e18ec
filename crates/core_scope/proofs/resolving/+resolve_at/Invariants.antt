use Rattle.core_scope.proofs.resolving.+resolve_at.Given as goal

abbrev pub decreases-resolve_at : goal.decreases-resolve_at
decreases-resolve_at l = l.depth
