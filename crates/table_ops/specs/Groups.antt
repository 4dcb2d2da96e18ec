-- Keys by several columns, and how often each comes (own rule).
use Rattle.std.specs.Prelude.{ℕ, Bool, ◌&&◌, List, [], ◌∷◌, length, map, nat_eq, replicate}
use Rattle.std.specs.List.{filter}
use Rattle.xq_base.specs.declared.item.Item.{Item}
use Rattle.plan_dag.specs.declared.cols.Col.{Col}
use Rattle.table_ops.specs.Columns.{numbers_from, cells_at}
use Rattle.table_ops.specs.Keys.{item_eq, keys_from}

-- a key with a cell each
abbrev pub paired : {X Y : Type 0} → List X → List Y → List (X × Y)
paired [] ys = []
paired (x ∷ xs) [] = []
paired (x ∷ xs) (y ∷ ys) = (x, y) ∷ paired xs ys

-- equal where both parts are
abbrev pub both_eq : ℕ × Item → ℕ × Item → Bool
both_eq x y = nat_eq x.0 y.0 && item_eq x.1 y.1

-- keys that are equal where these are and the cells too
abbrev pub refined : List ℕ → List Item → List ℕ
refined keys cells = keys_from both_eq [] (paired keys cells)

-- keys of rows by their cells in some columns
abbrev pub keys_by : List Col → List Col → List (List Item) → List ℕ
keys_by cols [] rows = replicate (length rows) 0
keys_by cols (d ∷ ds) rows = refined (keys_by cols ds rows) (cells_at cols d rows)

-- how often each of so many keys comes
abbrev pub counts_of : ℕ → List ℕ → List ℕ
counts_of groups keys = map (λ k. length (filter (nat_eq k) keys)) (numbers_from 0 groups)
