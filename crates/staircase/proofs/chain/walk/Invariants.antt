use Rattle.std.proofs.Common.{◌≡◌, length}
use Rattle.staircase.specs.Chains.{onward, up_to, Below, Marked, Walking}
use Rattle.staircase.proofs.chain.walk.Given as goal

abbrev pub invariant-loop-place : goal.invariant-loop-place
invariant-loop-place l = record {
  within : Below l.place (length l.rows);
  many : length l.marks.items ≡ length l.rows;
  walking : Marked (onward l.axis l.rows l.links) l.counting l.rows l.initial.marks.items l.initial.hits.items → Walking (onward l.axis l.rows l.links) l.counting l.rows l.start l.place l.marks.items l.initial.hits.items l.hits.items;
}

abbrev pub decreases-loop-place : goal.decreases-loop-place
decreases-loop-place l = up_to l.place
