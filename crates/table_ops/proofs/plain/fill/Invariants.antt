use Rattle.std.proofs.Common.{◌≡◌, replicate}
use Rattle.table_ops.proofs.plain.fill.Given as goal

abbrev pub invariant-loop-turn : goal.invariant-loop-turn
invariant-loop-turn l = l.out.items ≡ replicate l._turn l.cell
