use Rattle.std.proofs.Common.{◌≡◌, ◌≤◌, ◌+◌, ◌-◌, vec_len}
use Rattle.io_edge.specs.Wholes.{LeftOf}
use Rattle.io_edge.proofs.whole.read_whole.Given as goal

abbrev pub invariant-loop-bytes : goal.invariant-loop-bytes
invariant-loop-bytes g l = record {
  later : g.F.Shelf.faults l.initial.shelf ≤ g.F.Shelf.faults l.shelf;
  files : g.F.Shelf.files l.shelf ≡ g.F.Shelf.files l.initial.shelf;
  asked : g.F.Shelf.asked l.shelf ≡ g.F.Shelf.asked l.initial.shelf;
  within : vec_len l.bytes ≤ l.limit;
  left : LeftOf (g.F.Shelf.files l.initial.shelf) l.name l.bytes.items (g.F.Shelf.left l.shelf);
}

abbrev pub decreases-loop-bytes : goal.decreases-loop-bytes
decreases-loop-bytes g l = l.limit + 1 - vec_len l.bytes
