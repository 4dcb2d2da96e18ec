-- How many rows operators give (own rule).
use Rattle.std.specs.Prelude.{ℕ, ◌+◌, List, [], ◌∷◌, length}
use Rattle.xq_base.specs.declared.item.Item.{Item}
use Rattle.table_ops.specs.Chains.{places_of}
use Rattle.table_ops.specs.Keys.{item_eq}
use Rattle.table_ops.specs.Ranges.{ints_of}

-- pairs of equal cells
abbrev pub pairs_count : List Item → List Item → ℕ
pairs_count index [] = 0
pairs_count index (c ∷ cs) = length (places_of (item_eq c) 0 index) + pairs_count index cs

-- the integers between low and high cells
abbrev pub ints_count : List Item → List Item → ℕ
ints_count [] highs = 0
ints_count (low ∷ lows) [] = 0
ints_count (low ∷ lows) (high ∷ highs) = length (ints_of low high) + ints_count lows highs
