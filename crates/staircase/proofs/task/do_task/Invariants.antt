use Rattle.std.proofs.Common.{◌≡◌, ◌++◌, drop}
use Rattle.staircase.specs.Tasks.{found}
use Rattle.staircase.proofs.task.do_task.Given as goal

abbrev pub invariant-loop-s : goal.invariant-loop-s
invariant-loop-s l = l.hits.items ++ found l.counting l.task (drop l.s-index l.s-items) ≡ l.initial.hits.items ++ found l.counting l.task l.s-items
