-- Columns, pairs of columns and keys by their numbers (own rule).
use Rattle.std.specs.Prelude.{ℕ, false, Option, Some, None}
use Rattle.plan_dag.specs.declared.cols.Col.{Col}
use Rattle.plan_dag.specs.declared.keys.Key.{Key}
use Rattle.plan_dag.specs.declared.pairs.Pair.{Pair}
use Rattle.lift_laws.specs.States.{column}

-- a new column, and the old one that it takes
abbrev pub pair_in : ℕ × ℕ → Pair
pair_in p = record { new = column p.0; old = column p.1 }

-- from the least cell up
abbrev pub key_in : ℕ → Key
key_in n = record { col = column n; descending = false }

abbrev pub part_in : Option ℕ → Option Col
part_in None = None
part_in (Some n) = Some (column n)
