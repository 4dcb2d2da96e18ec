-- Tables by columns (own rule).
use Rattle.std.specs.Prelude.{ℕ, zero, suc, ◌≡◌, ◌<◌, cond, List, [], ◌∷◌, ◌++◌, length, map, take, pos, slice_index_or, Option, Some, None}
use Rattle.std.specs.declared.vec.Vec.{Vec}
use Rattle.std.specs.declared.rc.Rc.{Rc}
use Rattle.std.specs.declared.alloc.Global.{Global}
use Rattle.xq_base.specs.declared.item.Item.{Item}
use Rattle.xq_base.specs.declared.item.Item.TheVariants as i
use Rattle.plan_dag.specs.declared.cols.Col.{Col}
use Rattle.plan_dag.specs.Padded.{col_eq}
use Rattle.plan_dag.specs.Meaning.{cell_or}

-- numbers from one on, so many
abbrev pub numbers_from : ℕ → ℕ → List ℕ
numbers_from k zero = []
numbers_from k (suc n) = k ∷ numbers_from (suc k) n

-- what stands where nothing else does
abbrev pub no_cell : Item
no_cell = i.Int (pos 0)

-- the cell of a column in a row
abbrev pub cell_of : List Item → ℕ → Item
cell_of cells r = slice_index_or cells r no_cell

-- a row: its cell of each column
abbrev pub row_at : List (List Item) → ℕ → List Item
row_at columns r = map (λ c. cell_of c r) columns

abbrev pub rows_of : List (List Item) → ℕ → List (List Item)
rows_of columns n = map (row_at columns) (numbers_from 0 n)

-- the cells of a column that tables may share
abbrev pub Column : Type 0
Column = Rc (Vec Item Global) Global

abbrev pub cells_in : List Column → List (List Item)
cells_in vs = map (λ v. v.value.items) vs

-- the first so many cells of each column
abbrev pub heads : ℕ → List Column → List (List Item)
heads n vs = map (take n) (cells_in vs)

abbrev pub AllHigh : ℕ → List (List Item) → Type 0
AllHigh n [] = Unit {0}
AllHigh n (c ∷ cs) = (length c ≡ n) × AllHigh n cs

-- as many columns as names, and each at least as high as the table; what stands beyond is no part of it
pub record KeepsColumns (cols : List Col) (columns : List Column) (height : ℕ) : Type 0 where
  pub as_many : length columns ≡ length cols
  pub as_high : AllHigh height (heads height columns)

-- the columns of the rows at these places
abbrev pub gathered : List ℕ → List (List Item) → List (List Item)
gathered places columns = map (λ c. map (cell_of c) places) columns

abbrev pub AllWithin : ℕ → List ℕ → Type 0
AllWithin n [] = Unit {0}
AllWithin n (p ∷ ps) = (p < n) × AllWithin n ps

-- the rows at these places
abbrev pub rows_at : {C : Type 0} → List (List C) → List ℕ → List (List C)
rows_at rows places = map (λ p. slice_index_or rows p []) places

-- each column with one more cell
abbrev pub extended : List (List Item) → List Item → List (List Item)
extended [] row = []
extended (c ∷ cs) [] = c ∷ cs
extended (c ∷ cs) (v ∷ vs) = (c ++ v ∷ []) ∷ extended cs vs

-- the cells of the column of a name, where there is one
abbrev pub column_at : List Col → List (List Item) → Col → Option (List Item)
column_at [] cs c = None
column_at (k ∷ ks) [] c = None
column_at (k ∷ ks) (v ∷ vs) c = cond (col_eq k c) (Some v) (column_at ks vs c)

-- the cells of a column of rows
abbrev pub cells_at : List Col → Col → List (List Item) → List Item
cells_at cols c rows = map (cell_or no_cell cols c) rows

-- the cells of the column of a name, or none
abbrev pub column_or : List Col → List (List Item) → Col → List Item
column_or [] cs c = []
column_or (k ∷ ks) [] c = []
column_or (k ∷ ks) (v ∷ vs) c = cond (col_eq k c) v (column_or ks vs c)

-- columns with the others' cells behind theirs
abbrev pub zipped : List (List Item) → List (List Item) → List (List Item)
zipped [] bs = []
zipped (a ∷ as') [] = []
zipped (a ∷ as') (b ∷ bs) = (a ++ b) ∷ zipped as' bs

-- rows with the others' cells behind theirs
abbrev pub rows_beside : {C : Type 0} → List (List C) → List (List C) → List (List C)
rows_beside [] rs = []
rows_beside (l ∷ ls) [] = []
rows_beside (l ∷ ls) (r ∷ rs) = (l ++ r) ∷ rows_beside ls rs

-- a row for each cell
abbrev pub single_rows : {C : Type 0} → List C → List (List C)
single_rows cells = map (λ c. c ∷ []) cells

-- the cells of these columns in a row
abbrev pub cells_of : List Col → List Col → List Item → List Item
cells_of cols ds r = map (λ d. cell_or no_cell cols d r) ds
