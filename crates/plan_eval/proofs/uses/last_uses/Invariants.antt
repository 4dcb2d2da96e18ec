use Rattle.plan_eval.proofs.UseLaws.{UsesTo}
use Rattle.plan_eval.proofs.uses.last_uses.Given as goal

abbrev pub invariant-loop-place : goal.invariant-loop-place
invariant-loop-place l = UsesTo l.plan.ops l.events l.place l.last.items
