use Rattle.std.proofs.Common.{take}
use Rattle.step_bench.specs.Run.{Prints}
use Rattle.step_bench.proofs.run.write_steps.Given as goal

abbrev pub invariant-loop-axis : goal.invariant-loop-axis
invariant-loop-axis g l = Prints (take l.axis-index l.axes) l.tree l.context (g.W.Write.contents l.initial.out) (g.W.Write.contents l.out)
