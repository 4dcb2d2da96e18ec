use Rattle.std.proofs.Common.{take}
use Rattle.std.specs.Io.KnownBytes.{Appends}
use Rattle.table_bench.specs.Run.{lines_of}
use Rattle.table_bench.proofs.run.write_kernels.Given as goal

abbrev pub invariant-loop-kernel : goal.invariant-loop-kernel
invariant-loop-kernel g l = Appends (g.W.Write.contents l.initial.out) (g.W.Write.contents l.out) (lines_of l.many (take l.kernel-index l.kernels))
