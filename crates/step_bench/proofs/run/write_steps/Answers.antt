use Rattle.step_bench.proofs.PrintedLines.{next_printed}
use Rattle.step_bench.proofs.run.write_steps.Goals as goal

pub loop-axis-preserved : goal.loop-axis-preserved
loop-axis-preserved g c = next_printed c.args.axes.now c.loop-axis.axis-index _ c.args.tree.now c.args.context.now (g.W.Write.contents c.args.out.now) (g.W.Write.contents c.loop-axis.out) (g.W.Write.contents c.write_step.new.out) c.loop-axis-test.true c.loop-axis.invariant c.in_ok-write_step.ensures
