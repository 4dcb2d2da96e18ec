use Rattle.staircase.specs.Chains.{Linked}
use Rattle.staircase.proofs.links.links.Given as goal

abbrev pub invariant-loop-row : goal.invariant-loop-row
invariant-loop-row l = Linked l.axis l.rows l.links.items l.row-index
