-- Columns and the cells of rows.
use Rattle.std.proofs.Common.{◌≡◌, ◌<◌, ◌++◌, ◌∙◌, ◌||◌, ℕ, zero, suc, Bool, true, false, cond, List, [], ◌∷◌, Option, Some, None, is_some, length, map, take, refl, ap, sym, subst, arith, option_map, IfSome}
use Rattle.std.specs.Prelude.{slice_index_or}
use Rattle.xq_base.specs.declared.item.Item.{Item}
use Rattle.plan_dag.specs.declared.cols.Col.{Col}
use Rattle.plan_dag.specs.Padded.{col_eq}
use Rattle.plan_dag.specs.Schema.{has_col}
use Rattle.plan_dag.specs.Meaning.{cell_or}
use Rattle.table_ops.specs.Columns.{numbers_from, no_cell, cell_of, row_at, rows_of, Column, cells_in, heads, AllHigh, KeepsColumns, column_at, cells_at}
use Rattle.table_ops.proofs.Rowing.{by_places}
use Rattle.table_ops.proofs.Lists.{maps, map_long, map_self, each_same}

pub high_push : (n : ℕ) (vs : List Column) (v : Column) → AllHigh n (heads n vs) → length (take n v.value.items) ≡ n → AllHigh n (heads n (vs ++ v ∷ []))
high_push n [] v h e = (e, tt)
high_push n (w ∷ vs) v h e = (h.0, high_push n vs v h.1 e)

-- equal cells, equal columns
pub keeps_cells : (cols : List Col) (vs ws : List Column) (n : ℕ) → cells_in ws ≡ cells_in vs → KeepsColumns cols vs n → KeepsColumns cols ws n
keeps_cells cols vs ws n e k = record {
  as_many = sym (map_long (λ v. v.value.items) ws) ∙ ap (λ (z : List (List Item)). length z) e ∙ map_long (λ v. v.value.items) vs ∙ k.as_many;
  as_high = subst (λ z. AllHigh n (map (take n) z)) (sym e) k.as_high;
}

-- a table has the columns that its names say
pub column_there : (cols : List Col) (cs : List (List Item)) (c : Col) → length cs ≡ length cols → is_some (column_at cols cs c) ≡ has_col cols c
column_there [] cs c e = refl
column_there (k ∷ ks) [] c e = absurd (omega (arith, e))
column_there (k ∷ ks) (v ∷ vs) c e = by (col_eq k c) (column_there ks vs c (omega (arith, e)))
  where
    by : (b : Bool) → is_some (column_at ks vs c) ≡ has_col ks c → is_some (cond b (Some v) (column_at ks vs c)) ≡ b || has_col ks c
    by true r = refl
    by false r = r

-- and each of its rows has that column's cell
cell_in_row : (cols : List Col) (cs : List (List Item)) (c : Col) (x : List Item) (r : ℕ) → column_at cols cs c ≡ Some x → cell_or no_cell cols c (row_at cs r) ≡ cell_of x r
cell_in_row [] cs c x r e = cc
cell_in_row (k ∷ ks) [] c x r e = cc
cell_in_row (k ∷ ks) (v ∷ vs) c x r e = by (col_eq k c) e (cell_in_row ks vs c x r)
  where
    by : (b : Bool) → cond b (Some v) (column_at ks vs c) ≡ Some x → (column_at ks vs c ≡ Some x → cell_or no_cell ks c (row_at vs r) ≡ cell_of x r)
        → cond b (cell_of v r) (cell_or no_cell ks c (row_at vs r)) ≡ cell_of x r
    by true e rest = let same : v ≡ x = cc in ap (λ z. cell_of z r) same
    by false e rest = rest e

high_at : (cols : List Col) (cs : List (List Item)) (c : Col) (x : List Item) (n : ℕ) → AllHigh n cs → column_at cols cs c ≡ Some x → length x ≡ n
high_at [] cs c x n h e = cc
high_at (k ∷ ks) [] c x n h e = cc
high_at (k ∷ ks) (v ∷ vs) c x n h e = by (col_eq k c) e (high_at ks vs c x n h.1)
  where
    by : (b : Bool) → cond b (Some v) (column_at ks vs c) ≡ Some x → (column_at ks vs c ≡ Some x → length x ≡ n) → length x ≡ n
    by true e rest = let same : v ≡ x = cc in ap length (sym same) ∙ h.0
    by false e rest = rest e

pub column_cells : (cols : List Col) (cs : List (List Item)) (c : Col) (x : List Item) (n : ℕ) → AllHigh n cs → column_at cols cs c ≡ Some x → cells_at cols c (rows_of cs n) ≡ x
column_cells cols cs c x n h e =
    maps (cell_or no_cell cols c) (row_at cs) (numbers_from 0 n)
    ∙ each_same _ (cell_of x) (numbers_from 0 n) (λ r. cell_in_row cols cs c x r e)
    ∙ ap (λ m. map (cell_of x) (numbers_from 0 m)) (sym (high_at cols cs c x n h e))
    ∙ by_places no_cell (λ v. v) [] x
    ∙ map_self x

-- the element at a place of a mapped list
pub at_place : {X Y : Type 0} (f : X → Y) (d : X) (e : Y) (xs : List X) (k : ℕ) → k < length xs → slice_index_or (map f xs) k e ≡ f (slice_index_or xs k d)
at_place f d e [] k h = absurd (omega (arith, h))
at_place f d e (x ∷ xs) zero h = refl
at_place f d e (x ∷ xs) (suc k) h = at_place f d e xs k (omega (arith, h))

some_mapped : {X Y : Type 0} (f : X → Y) (r : Option X) → is_some (option_map f r) ≡ is_some r
some_mapped f None = refl
some_mapped f (Some x) = refl

module _ {X : Type 0} (f : X → List Item) (ks cols : List Col) (vs columns : List Column) (n : ℕ) (c : Col) (k : ks ≡ cols) (v : vs ≡ columns) (keeps : KeepsColumns cols columns n) where
  same_column : column_at ks (heads n vs) c ≡ column_at cols (heads n columns) c
  same_column = λ i. column_at (k i) (heads n (v i)) c

  -- what a table lends of a column
  pub lent_found : (r : Option X) → option_map f r ≡ column_at ks (heads n vs) c → is_some r ≡ has_col cols c
  lent_found r e =
      sym (some_mapped f r) ∙ ap is_some (e ∙ same_column)
      ∙ column_there cols (heads n columns) c (map_long (take n) (cells_in columns) ∙ map_long (λ w. w.value.items) columns ∙ keeps.as_many)

  pub lent_cells : (r : Option X) → option_map f r ≡ column_at ks (heads n vs) c → IfSome r (λ s. f s ≡ cells_at cols c (rows_of (heads n columns) n))
  lent_cells None e = tt
  lent_cells (Some s) e = sym (column_cells cols (heads n columns) c (f s) n keeps.as_high (sym (e ∙ same_column)))
