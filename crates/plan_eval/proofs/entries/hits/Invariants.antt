use Rattle.std.proofs.Common.{◌≡◌, ◌++◌, drop}
use Rattle.plan_eval.specs.Entries.{hits_at}
use Rattle.plan_eval.proofs.entries.hits.Given as goal

abbrev pub invariant-loop-entry : goal.invariant-loop-entry
invariant-loop-entry l = l.out.items ++ hits_at l.rank (drop l.entry-index l.entries) ≡ hits_at l.rank l.entries
