use Rattle.std.proofs.Common.{◌≡◌, ◌++◌}
use Rattle.pathfinder_run.proofs.words.all_of.Given as goal

abbrev pub invariant-loop-word : goal.invariant-loop-word
invariant-loop-word l = l.words.items ++ l.word-iterator.rest.items ≡ l.fn.all.rest.items
