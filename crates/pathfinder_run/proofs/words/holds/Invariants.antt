use Rattle.std.proofs.Common.{map, string_bytes, take}
use Rattle.xq_base.specs.Distinct.{Holds}
use Rattle.pathfinder_run.proofs.words.holds.Given as goal

abbrev pub invariant-loop-other : goal.invariant-loop-other
invariant-loop-other l = Holds (map string_bytes (take l.other-index l.words)) l.word → ⊥
