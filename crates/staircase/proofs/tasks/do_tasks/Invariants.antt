use Rattle.std.proofs.Common.{take}
use Rattle.staircase.specs.Tasks.{AddsAll, AllOf}
use Rattle.staircase.proofs.tasks.do_tasks.Given as goal

abbrev pub invariant-loop-task : goal.invariant-loop-task
invariant-loop-task l = record {
  done : AddsAll l.seen l.counting (take l.task-index l.task-items) l.initial.hits.items l.hits.items;
  all : AllOf l.seen l.counting l.before l.hits.items;
}
