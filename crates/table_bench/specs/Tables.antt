-- The tables over which operators are run (own rule).
use Rattle.std.specs.Prelude.{ℕ, zero, suc, ◌*◌, ◌%◌, pos, List, [], ◌∷◌, ◌++◌, nat_eq}
use Rattle.xq_base.specs.declared.item.Item.{Item}
use Rattle.xq_base.specs.declared.item.Item.TheVariants as i
use Rattle.plan_dag.specs.declared.cols.Col.{Col}
use Rattle.plan_dag.specs.Meaning.{Table}
use Rattle.table_bench.specs.declared.kernels.Kernel.{Kernel}
use Rattle.table_bench.specs.declared.kernels.Kernel.TheVariants as k
use Rattle.table_bench.specs.Kernels.{col}

-- a number that is in no order
abbrev pub scrambled : ℕ → ℕ
scrambled n = (n * 7919) % 1000003

-- the row of a number: it, one in no order, and whether it is even
abbrev pub row_of : ℕ → List Item
row_of n = i.Int (pos n) ∷ i.Int (pos (scrambled n)) ∷ i.Bool (nat_eq (n % 2) 0) ∷ []

-- the rows of the numbers below this one
abbrev pub rows_below : ℕ → List (List Item)
rows_below zero = []
rows_below (suc n) = rows_below n ++ row_of n ∷ []

abbrev pub left_cols : List Col
left_cols = col 0 ∷ col 1 ∷ col 2 ∷ []

abbrev pub right_cols : List Col
right_cols = col 3 ∷ col 4 ∷ col 5 ∷ []

abbrev pub table_with : List Col → ℕ → Table Item
table_with cols n = record { cols = cols; rows = rows_below n }

-- a union is of a table with itself
abbrev pub second_cols : Kernel → List Col
second_cols k.Union = left_cols
second_cols _ = right_cols
