use Rattle.std.proofs.Common.{◌≡◌, length, take}
use Rattle.staircase.specs.Chains.{onward, AddsWalks, Marked}
use Rattle.staircase.proofs.chains.walk_all.Given as goal

abbrev pub invariant-loop-start : goal.invariant-loop-start
invariant-loop-start l = record {
  many : length l.marks.items ≡ length l.rows;
  marked : Marked (onward l.axis l.rows l.links) l.counting l.rows l.marks.items l.hits.items;
  done : AddsWalks l.axis l.counting l.rows l.links (take l.start-index l.start-items) l.initial.hits.items l.hits.items;
}
