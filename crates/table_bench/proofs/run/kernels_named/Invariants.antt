use Rattle.std.proofs.Common.{◌≡◌, ◌++◌, map, string_bytes}
use Rattle.table_bench.specs.Kernels.{name_of}
use Rattle.table_bench.proofs.run.kernels_named.Given as goal

abbrev pub invariant-loop-word : goal.invariant-loop-word
invariant-loop-word l = map name_of l.kernels.items ++ map string_bytes l.word-iterator.rest.items ≡ map string_bytes l.fn.words.rest.items
