use Rattle.std.proofs.Common.{map, string_bytes, length}
use Rattle.xq_base.specs.Distinct.{AllDiffer}
use Rattle.pathfinder_run.proofs.words.are_different.Given as goal

abbrev pub invariant-loop-first : goal.invariant-loop-first
invariant-loop-first l = record {
  rest : AllDiffer (map string_bytes l.fn.words) → AllDiffer (map string_bytes l.rest);
  whole : AllDiffer (map string_bytes l.rest) → AllDiffer (map string_bytes l.fn.words);
}

abbrev pub decreases-loop-first : goal.decreases-loop-first
decreases-loop-first l = length l.rest
