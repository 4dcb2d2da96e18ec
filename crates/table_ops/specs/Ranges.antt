-- The integers between two cells of each row (own rule).
use Rattle.std.specs.Prelude.{ℕ, suc, ℤ, List, [], ◌∷◌, ◌++◌, map}
use Rattle.xq_base.specs.declared.item.Item.{Item}
use Rattle.plan_dag.specs.Rows.{ints_between}
use Rattle.table_ops.specs.Held.{held_int}

abbrev pub ints_of : Item → Item → List ℤ
ints_of low high = ints_between (held_int low) (held_int high)

-- integers, each with a place
abbrev pub counted : ℕ → List ℤ → List (ℕ × ℤ)
counted place zs = map (λ z. (place, z)) zs

-- the integers of each row, with its place, from this place on
abbrev pub counted_from : ℕ → List Item → List Item → List (ℕ × ℤ)
counted_from place [] highs = []
counted_from place (low ∷ lows) [] = []
counted_from place (low ∷ lows) (high ∷ highs) = counted place (ints_of low high) ++ counted_from (suc place) lows highs
