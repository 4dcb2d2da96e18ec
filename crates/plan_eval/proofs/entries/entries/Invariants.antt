use Rattle.std.proofs.Common.{◌≡◌, ◌++◌, drop}
use Rattle.plan_eval.specs.Entries.{entries_of}
use Rattle.plan_eval.proofs.entries.entries.Given as goal

abbrev pub invariant-loop-row : goal.invariant-loop-row
invariant-loop-row l = l.out.items ++ entries_of (drop l.row l.iters) (drop l.row l.nodes) ≡ entries_of l.iters l.nodes
