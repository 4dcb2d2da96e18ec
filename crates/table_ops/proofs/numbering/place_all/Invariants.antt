use Rattle.std.proofs.Common.{◌≡◌, take, map, length}
use Rattle.table_ops.specs.Columns.{cell_of}
use Rattle.table_ops.proofs.numbering.place_all.Given as goal

abbrev pub invariant-loop-turn : goal.invariant-loop-turn
invariant-loop-turn l = (map (cell_of l.out) (take l.turn l.order) ≡ take l.turn l.cells) × (length l.out ≡ length l.order)
