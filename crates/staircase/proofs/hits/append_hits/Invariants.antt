use Rattle.std.proofs.Common.{◌≡◌, ◌++◌, drop, None}
use Rattle.staircase.specs.Hits.{spread, Extends}
use Rattle.staircase.proofs.hits.append_hits.Given as goal

abbrev pub invariant-loop-hit : goal.invariant-loop-hit
invariant-loop-hit l = record {
  spread : l.out.items ++ spread l.last (drop l.hit-index l.hit-items) ≡ l.initial.out.items ++ spread None l.hit-items;
  kept : Extends l.initial.out.items l.out.items;
}
