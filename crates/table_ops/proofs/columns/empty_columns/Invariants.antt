use Rattle.std.proofs.Common.{◌≡◌, length}
use Rattle.table_ops.specs.Columns.{heads, AllHigh}
use Rattle.table_ops.proofs.columns.empty_columns.Given as goal

abbrev pub invariant-loop-turn : goal.invariant-loop-turn
invariant-loop-turn l = (length l.out.items ≡ l._turn) × AllHigh 0 (heads 0 l.out.items)
