use Rattle.std.proofs.Common.{◌≡◌, replicate}
use Rattle.table_ops.proofs.grouping.zeros.Given as goal

abbrev pub invariant-loop-turn : goal.invariant-loop-turn
invariant-loop-turn l = l.out.items ≡ replicate l._turn 0
