use Rattle.plan_eval.proofs.RunLaws.{Running}
use Rattle.plan_eval.proofs.run.run.Given as goal

abbrev pub invariant-loop-place : goal.invariant-loop-place
invariant-loop-place g l = Running l.initial.pool l.store l.plan l.events l.last l.initial.reads l.reads l.initial.tallies.items l.place l.pool l.tables.items l.tallies.items
