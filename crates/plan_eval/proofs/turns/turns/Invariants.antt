use Rattle.plan_eval.proofs.TurnLaws.{TurnsFrom}
use Rattle.plan_eval.proofs.turns.turns.Given as goal

abbrev pub invariant-loop-k : goal.invariant-loop-k
invariant-loop-k l = TurnsFrom l.plan l.k l.turns.items

abbrev pub decreases-loop-k : goal.decreases-loop-k
decreases-loop-k l = l.k
