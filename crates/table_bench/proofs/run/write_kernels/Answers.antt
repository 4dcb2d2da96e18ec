use Rattle.table_bench.proofs.PrintedLines.{next_printed}
use Rattle.table_bench.proofs.run.write_kernels.Goals as goal

pub loop-kernel-preserved : goal.loop-kernel-preserved
loop-kernel-preserved g c = next_printed c.args.many c.args.kernels.now c.loop-kernel.kernel-index _ (g.W.Write.contents c.args.out.now) (g.W.Write.contents c.loop-kernel.out) (g.W.Write.contents c.write_kernel.new.out) c.loop-kernel-test.true c.loop-kernel.invariant c.in_ok-write_kernel.ensures
