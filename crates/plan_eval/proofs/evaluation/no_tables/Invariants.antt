use Rattle.plan_eval.specs.Running.{AreEmpty}
use Rattle.plan_eval.proofs.evaluation.no_tables.Given as goal

abbrev pub invariant-loop-place : goal.invariant-loop-place
invariant-loop-place l = AreEmpty l._place l.out.items
