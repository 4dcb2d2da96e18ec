use Rattle.std.proofs.Common.{◌≡◌, ◌++◌, map, string_bytes}
use Rattle.step_bench.specs.Axes.{name_of}
use Rattle.step_bench.proofs.run.axes_named.Given as goal

abbrev pub invariant-loop-word : goal.invariant-loop-word
invariant-loop-word l = map name_of l.axes.items ++ map string_bytes l.word-iterator.rest.items ≡ map string_bytes l.fn.words.rest.items
