-- Places by key, one key's behind the other's (own rule).
use Rattle.std.specs.Prelude.{ℕ, ◌≡◌, ◌<◌, ◌≤◌, ◌-◌, List, length, map, take, drop, nat_eq, slice_index_or}
use Rattle.xq_base.specs.declared.item.Item.{Item}
use Rattle.table_ops.specs.Chains.{places_of, AllBelow}
use Rattle.table_ops.specs.Columns.{no_cell}
use Rattle.table_ops.specs.Keys.{item_eq, place_in}

-- the cells that keys stand for
abbrev pub cells_by : List Item → List ℕ → List Item
cells_by table keys = map (λ k. slice_index_or table k no_cell) keys

-- between two places these stand
pub record IsPiece (all : List ℕ) (span : ℕ × ℕ) (piece : List ℕ) : Type 0 where
  pub ordered : span.0 ≤ span.1
  pub within : span.1 ≤ length all
  pub is : take (span.1 - span.0) (drop span.0 all) ≡ piece

abbrev pub span_at : List (ℕ × ℕ) → ℕ → ℕ × ℕ
span_at spans k = slice_index_or spans k (0, 0)

-- so many keys have their places
pub record AreFiled (n : ℕ) (keys : List ℕ) (spans : List (ℕ × ℕ)) (places : List ℕ) : Type 0 where
  pub many : length spans ≡ n
  pub pieces : (k : ℕ) → k < n → IsPiece places (span_at spans k) (places_of (nat_eq k) 0 keys)

-- keys of cells, and the places of each
pub record FilesCells (table : List Item) (keys : List ℕ) (spans : List (ℕ × ℕ)) (places : List ℕ) : Type 0 where
  pub own : keys ≡ map (place_in item_eq table) (cells_by table keys)
  pub there : AllBelow (length table) keys
  pub filed : AreFiled (length table) keys spans places
