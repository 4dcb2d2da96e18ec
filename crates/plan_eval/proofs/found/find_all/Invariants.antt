use Rattle.plan_eval.proofs.FoundSoFar.{SoFar}
use Rattle.plan_eval.proofs.found.find_all.Given as goal

abbrev pub invariant-loop-rank : goal.invariant-loop-rank
invariant-loop-rank g l = SoFar l.axis l.test l.site l.store l.entries l.initial.reads l.reads l.rank l.tally l.rows.items
