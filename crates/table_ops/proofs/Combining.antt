-- Tables beside and above each other, and chosen columns.
use Rattle.std.proofs.Common.{◌≡◌, ◌<◌, ◌+◌, ◌++◌, ◌∙◌, ◌&&◌, ◌||◌, ℕ, zero, suc, Bool, true, false, cond, List, [], ◌∷◌, length, map, take, drop, refl, ap, sym, subst, arith, Result, Ok, Err, OnErr, IfOk}
use Rattle.std.specs.Prelude.{slice_index_or}
use Rattle.xq_base.specs.declared.item.Item.{Item}
use Rattle.plan_dag.specs.declared.cols.Col.{Col}
use Rattle.plan_dag.specs.Padded.{col_eq}
use Rattle.plan_dag.specs.Schema.{has_col, has_cols}
use Rattle.plan_dag.specs.Meaning.{cell_or, Table}
use Rattle.table_ops.specs.Columns.{numbers_from, no_cell, cell_of, row_at, rows_of, Column, cells_in, heads, AllHigh, KeepsColumns, AllWithin, rows_at, gathered, extended, column_or, zipped, rows_beside, single_rows, cells_of}
use Rattle.table_ops.proofs.Rowing.{by_places, drop_all, gathered_rows, rows_at_places, gathered_high, as_many_rows}
use Rattle.table_ops.proofs.Lists.{maps, map_append, map_long, each_same, long_append}

-- beside each other
beside_from : (as' bs : List (List Item)) (k n : ℕ) → map (row_at (as' ++ bs)) (numbers_from k n) ≡ rows_beside (map (row_at as') (numbers_from k n)) (map (row_at bs) (numbers_from k n))
beside_from as' bs k zero = refl
beside_from as' bs k (suc n) = λ i. map_append (λ c. cell_of c k) as' bs i ∷ beside_from as' bs (suc k) n i

pub beside_rows : (as' bs : List (List Item)) (n : ℕ) → rows_of (as' ++ bs) n ≡ rows_beside (rows_of as' n) (rows_of bs n)
beside_rows as' bs n = beside_from as' bs 0 n

-- above each other
numbers_split : (k n m t : ℕ) → t ≡ n + m → numbers_from k t ≡ numbers_from k n ++ numbers_from (k + n) m
numbers_split k zero m t e = λ i. numbers_from (plus_none k i) (same m t e i)
  where
    plus_none : (k : ℕ) → k ≡ k + 0
    plus_none k = omega arith

    same : (m t : ℕ) → t ≡ 0 + m → t ≡ m
    same m t e = omega (arith, e)
numbers_split k (suc n) m zero e = absurd (omega (arith, e))
numbers_split k (suc n) m (suc t) e =
    let at : suc k + n ≡ k + suc n = omega arith in
    ap (λ z. k ∷ z) (numbers_split (suc k) n m t (omega (arith, e)) ∙ ap (λ z. numbers_from (suc k) n ++ numbers_from z m) at)

shifted : {X : Type 0} (f g : ℕ → X) (k j n : ℕ) → ((i : ℕ) → f (k + i) ≡ g i) → map f (numbers_from (k + j) n) ≡ map g (numbers_from j n)
shifted f g k j zero h = refl
shifted f g k j (suc n) h =
    let at : suc (k + j) ≡ k + suc j = omega arith in
    λ i. h j i ∷ (ap (λ z. map f (numbers_from z n)) at ∙ shifted f g k (suc j) n h) i

at_low : (xs ys : List Item) (j : ℕ) → j < length xs → slice_index_or (xs ++ ys) j no_cell ≡ slice_index_or xs j no_cell
at_low [] ys j h = absurd (omega (arith, h))
at_low (x ∷ xs) ys zero h = refl
at_low (x ∷ xs) ys (suc j) h = at_low xs ys j (omega (arith, h))

at_high : (xs ys : List Item) (n j t : ℕ) → length xs ≡ n → t ≡ n + j → slice_index_or (xs ++ ys) t no_cell ≡ slice_index_or ys j no_cell
at_high [] ys n j t h e = ap (λ k. slice_index_or ys k no_cell) (omega (arith, h, e))
at_high (x ∷ xs) ys n j zero h e = absurd (omega (arith, h, e))
at_high (x ∷ xs) ys zero j (suc t) h e = absurd (omega (arith, h))
at_high (x ∷ xs) ys (suc n) j (suc t) h e = at_high xs ys n j t (omega (arith, h)) (omega (arith, e))

low_row : (as' bs : List (List Item)) (n j : ℕ) → length as' ≡ length bs → AllHigh n as' → j < n → row_at (zipped as' bs) j ≡ row_at as' j
low_row [] bs n j e h l = refl
low_row (a ∷ as') [] n j e h l = absurd (omega (arith, e))
low_row (a ∷ as') (b ∷ bs) n j e h l = λ i. at_low a b j (omega (arith, l, h.0)) i ∷ low_row as' bs n j (omega (arith, e)) h.1 l i

high_row : (as' bs : List (List Item)) (n j t : ℕ) → length as' ≡ length bs → AllHigh n as' → t ≡ n + j → row_at (zipped as' bs) t ≡ row_at bs j
high_row [] [] n j t e h l = refl
high_row [] (b ∷ bs) n j t e h l = absurd (omega (arith, e))
high_row (a ∷ as') [] n j t e h l = absurd (omega (arith, e))
high_row (a ∷ as') (b ∷ bs) n j t e h l = λ i. at_high a b n j t h.0 l i ∷ high_row as' bs n j t (omega (arith, e)) h.1 l i

pub stacked_rows : (as' bs : List (List Item)) (n m t : ℕ) → length as' ≡ length bs → AllHigh n as' → t ≡ n + m → rows_of (zipped as' bs) t ≡ rows_of as' n ++ rows_of bs m
stacked_rows as' bs n m t e h s =
    ap (map (row_at (zipped as' bs))) (numbers_split 0 n m t s)
    ∙ map_append (row_at (zipped as' bs)) (numbers_from 0 n) (numbers_from (0 + n) m)
    ∙ (λ i. drop_all (row_at (zipped as' bs)) (row_at as') 0 n (λ j a b. low_row as' bs n j e h (omega (arith, b))) i
    ++ (ap (λ z. map (row_at (zipped as' bs)) (numbers_from z m)) at ∙ shifted (row_at (zipped as' bs)) (row_at bs) n 0 m (λ j. high_row as' bs n j (n + j) e h refl)) i)
  where
    at : 0 + n ≡ n + 0
    at = omega arith

pub stacked_high : (as' bs : List (List Item)) (n m t : ℕ) → length as' ≡ length bs → AllHigh n as' → AllHigh m bs → t ≡ n + m → AllHigh t (zipped as' bs)
stacked_high [] bs n m t e a b s = tt
stacked_high (c ∷ as') [] n m t e a b s = absurd (omega (arith, e))
stacked_high (c ∷ as') (d ∷ bs) n m t e a b s = (length_both c d ∙ omega (arith, a.0, b.0, s), stacked_high as' bs n m t (omega (arith, e)) a.1 b.1 s)
  where
    length_both : (xs ys : List Item) → length (xs ++ ys) ≡ length xs + length ys
    length_both [] ys = omega arith
    length_both (x ∷ xs) ys = omega (arith, length_both xs ys)

pub stacked_many : (as' bs : List (List Item)) → length as' ≡ length bs → length (zipped as' bs) ≡ length as'
stacked_many [] bs e = refl
stacked_many (a ∷ as') [] e = absurd (omega (arith, e))
stacked_many (a ∷ as') (b ∷ bs) e = ap suc (stacked_many as' bs (omega (arith, e)))

-- one more row
one_more : (cs : List (List Item)) (row : List Item) → length row ≡ length cs → extended cs row ≡ zipped cs (map (λ v. v ∷ []) row)
one_more [] row e = refl
one_more (c ∷ cs) [] e = absurd (omega (arith, e))
one_more (c ∷ cs) (v ∷ row) e = ap (λ z. (c ++ v ∷ []) ∷ z) (one_more cs row (omega (arith, e)))

lone_row : (row : List Item) → row_at (map (λ v. v ∷ []) row) 0 ≡ row
lone_row [] = refl
lone_row (v ∷ row) = ap (λ z. v ∷ z) (lone_row row)

lone_high : (row : List Item) → AllHigh 1 (map (λ v. v ∷ []) row)
lone_high [] = tt
lone_high (v ∷ row) = (refl, lone_high row)

pub extended_rows : (cs : List (List Item)) (row : List Item) (n t : ℕ) → length row ≡ length cs → AllHigh n cs → t ≡ n + 1 → rows_of (extended cs row) t ≡ rows_of cs n ++ row ∷ []
extended_rows cs row n t e h s =
    ap (λ z. rows_of z t) (one_more cs row e)
    ∙ stacked_rows cs (map (λ v. v ∷ []) row) n 1 t (sym e ∙ sym (map_long (λ v. v ∷ []) row)) h s
    ∙ ap (λ z. rows_of cs n ++ z ∷ []) (lone_row row)

pub extended_high : (cs : List (List Item)) (row : List Item) (n t : ℕ) → length row ≡ length cs → AllHigh n cs → t ≡ n + 1 → AllHigh t (extended cs row)
extended_high cs row n t e h s =
    subst (AllHigh t) (sym (one_more cs row e)) (stacked_high cs (map (λ v. v ∷ []) row) n 1 t (sym e ∙ sym (map_long (λ v. v ∷ []) row)) h (lone_high row) s)

pub extended_many : (cs : List (List Item)) (row : List Item) → length (extended cs row) ≡ length cs
extended_many [] row = refl
extended_many (c ∷ cs) [] = refl
extended_many (c ∷ cs) (v ∷ row) = ap suc (extended_many cs row)

-- columns that are just as high
pub take_all : (n : ℕ) (xs : List Item) → length xs ≡ n → take n xs ≡ xs
take_all zero [] e = refl
take_all zero (x ∷ xs) e = absurd (omega (arith, e))
take_all (suc n) [] e = absurd (omega (arith, e))
take_all (suc n) (x ∷ xs) e = ap (λ z. x ∷ z) (take_all n xs (omega (arith, e)))

pub heads_all : (n : ℕ) (cs : List (List Item)) → AllHigh n cs → map (take n) cs ≡ cs
heads_all n [] h = refl
heads_all n (c ∷ cs) h = λ i. take_all n c h.0 i ∷ heads_all n cs h.1 i

pub high_append : (n : ℕ) (as' bs : List (List Item)) → AllHigh n as' → AllHigh n bs → AllHigh n (as' ++ bs)
high_append n [] bs a b = b
high_append n (c ∷ as') bs a b = (a.0, high_append n as' bs a.1 b)

-- chosen columns
cell_chosen : (cols : List Col) (cs : List (List Item)) (d : Col) (r : ℕ) → cell_of (column_or cols cs d) r ≡ cell_or no_cell cols d (row_at cs r)
cell_chosen [] cs d r = refl
cell_chosen (k ∷ ks) [] d r = refl
cell_chosen (k ∷ ks) (v ∷ vs) d r = by (col_eq k d) (cell_chosen ks vs d r)
  where
    by : (b : Bool) → cell_of (column_or ks vs d) r ≡ cell_or no_cell ks d (row_at vs r) → cell_of (cond b v (column_or ks vs d)) r ≡ cond b (cell_of v r) (cell_or no_cell ks d (row_at vs r))
    by true e = refl
    by false e = e

pub chosen_rows : (cols ds : List Col) (cs : List (List Item)) (n : ℕ) → rows_of (map (column_or cols cs) ds) n ≡ map (cells_of cols ds) (rows_of cs n)
chosen_rows cols ds cs n =
    each_same (row_at (map (column_or cols cs) ds)) (λ r. cells_of cols ds (row_at cs r)) (numbers_from 0 n)
    (λ r. maps (λ c. cell_of c r) (column_or cols cs) ds ∙ each_same _ _ ds (λ d. cell_chosen cols cs d r))
    ∙ sym (maps (cells_of cols ds) (row_at cs) (numbers_from 0 n))

abbrev no_cells : List Item
no_cells = []

take_none : (n : ℕ) → take n no_cells ≡ no_cells
take_none zero = refl
take_none (suc n) = refl

head_chosen : (n : ℕ) (cols : List Col) (cs : List (List Item)) (d : Col) → take n (column_or cols cs d) ≡ column_or cols (map (take n) cs) d
head_chosen n [] cs d = take_none n
head_chosen n (k ∷ ks) [] d = take_none n
head_chosen n (k ∷ ks) (v ∷ vs) d = by (col_eq k d) (head_chosen n ks vs d)
  where
    by : (b : Bool) → take n (column_or ks vs d) ≡ column_or ks (map (take n) vs) d → take n (cond b v (column_or ks vs d)) ≡ cond b (take n v) (column_or ks (map (take n) vs) d)
    by true e = refl
    by false e = e

pub heads_chosen : (n : ℕ) (cols ds : List Col) (cs : List (List Item)) → map (take n) (map (column_or cols cs) ds) ≡ map (column_or cols (map (take n) cs)) ds
heads_chosen n cols ds cs = maps (take n) (column_or cols cs) ds ∙ each_same _ _ ds (head_chosen n cols cs)

column_high : (n : ℕ) (cols : List Col) (cs : List (List Item)) (d : Col) → length cs ≡ length cols → AllHigh n cs → has_col cols d ≡ true → length (column_or cols cs d) ≡ n
column_high n [] cs d e h t = cc
column_high n (k ∷ ks) [] d e h t = absurd (omega (arith, e))
column_high n (k ∷ ks) (v ∷ vs) d e h t = by (col_eq k d) t (column_high n ks vs d (omega (arith, e)) h.1)
  where
    by : (b : Bool) → b || has_col ks d ≡ true → (has_col ks d ≡ true → length (column_or ks vs d) ≡ n) → length (cond b v (column_or ks vs d)) ≡ n
    by true t r = h.0
    by false t r = r t

pub chosen_high : (n : ℕ) (cols ds : List Col) (cs : List (List Item)) → length cs ≡ length cols → AllHigh n cs → has_cols cols ds ≡ true → AllHigh n (map (column_or cols cs) ds)
chosen_high n cols [] cs e h t = tt
chosen_high n cols (d ∷ ds) cs e h t = by (has_col cols d) refl t (chosen_high n cols ds cs e h)
  where
    by : (b : Bool) → has_col cols d ≡ b → b && has_cols cols ds ≡ true → (has_cols cols ds ≡ true → AllHigh n (map (column_or cols cs) ds)) → AllHigh n (map (column_or cols cs) (d ∷ ds))
    by true s t r = (column_high n cols cs d e h s, r t)
    by false s t r = cc

-- a table of one column
pub single_is : (cells : List Item) → rows_of (cells ∷ []) (length cells) ≡ single_rows cells
single_is cells = by_places no_cell (λ c. c ∷ []) [] cells

-- what a table of columns needs
pub keeps_from : (cols : List Col) (ws : List Column) (n : ℕ) (cs : List (List Item)) → cells_in ws ≡ cs → length cs ≡ length cols → AllHigh n (map (take n) cs) → KeepsColumns cols ws n
keeps_from cols ws n cs e m h = record {
  as_many = sym (map_long (λ w. w.value.items) ws) ∙ ap (λ (z : List (List Item)). length z) e ∙ m;
  as_high = subst (λ z. AllHigh n (map (take n) z)) (sym e) h;
}

-- tables of columns that were made
high_heads : (n : ℕ) (cs : List (List Item)) → AllHigh n cs → AllHigh n (map (take n) cs)
high_heads n cs h = subst (AllHigh n) (sym (heads_all n cs h)) h

rows_are : (cs : List (List Item)) (n : ℕ) (ws : List Column) → cells_in ws ≡ cs → AllHigh n cs → rows_of (heads n ws) n ≡ rows_of cs n
rows_are cs n ws e h = ap (λ z. rows_of (map (take n) z) n) e ∙ ap (λ z. rows_of z n) (heads_all n cs h)

many_heads : (cols : List Col) (vs : List Column) (n : ℕ) → KeepsColumns cols vs n → length (heads n vs) ≡ length cols
many_heads cols vs n k = map_long (take n) (cells_in vs) ∙ map_long (λ w. w.value.items) vs ∙ k.as_many

pub gathered_keeps : (cols : List Col) (vs ws : List Column) (n : ℕ) (ps : List ℕ) → KeepsColumns cols vs n → cells_in ws ≡ gathered ps (heads n vs) → KeepsColumns cols ws (length ps)
gathered_keeps cols vs ws n ps k e =
    keeps_from cols ws (length ps) (gathered ps (heads n vs)) e (map_long (λ c. map (cell_of c) ps) (heads n vs) ∙ many_heads cols vs n k)
    (high_heads (length ps) (gathered ps (heads n vs)) (gathered_high ps (heads n vs)))

pub gathered_table : (vs ws : List Column) (n : ℕ) (ps : List ℕ) → AllWithin n ps → cells_in ws ≡ gathered ps (heads n vs) → rows_of (heads (length ps) ws) (length ps) ≡ rows_at (rows_of (heads n vs) n) ps
gathered_table vs ws n ps w e =
    rows_are (gathered ps (heads n vs)) (length ps) ws e (gathered_high ps (heads n vs))
    ∙ gathered_rows (heads n vs) ps
    ∙ sym (rows_at_places (heads n vs) n ps w)

pub chosen_keeps : (cols ds names : List Col) (vs ws : List Column) (n : ℕ) → KeepsColumns cols vs n → length names ≡ length ds → has_cols cols ds ≡ true → cells_in ws ≡ map (column_or cols (cells_in vs)) ds → KeepsColumns names ws n
chosen_keeps cols ds names vs ws n k m t e =
    keeps_from names ws n (map (column_or cols (cells_in vs)) ds) e (map_long (column_or cols (cells_in vs)) ds ∙ sym m)
    (subst (AllHigh n) (sym (heads_chosen n cols ds (cells_in vs))) (chosen_high n cols ds (heads n vs) (many_heads cols vs n k) k.as_high t))

pub chosen_table : (cols ds : List Col) (vs ws : List Column) (n : ℕ) → cells_in ws ≡ map (column_or cols (cells_in vs)) ds → rows_of (heads n ws) n ≡ map (cells_of cols ds) (rows_of (heads n vs) n)
chosen_table cols ds vs ws n e =
    ap (λ z. rows_of (map (take n) z) n) e
    ∙ ap (λ z. rows_of z n) (heads_chosen n cols ds (cells_in vs))
    ∙ chosen_rows cols ds (heads n vs) n

heads_beside : (n : ℕ) (as' bs : List (List Item)) → map (take n) (as' ++ bs) ≡ map (take n) as' ++ map (take n) bs
heads_beside n as' bs = map_append (take n) as' bs

pub beside_keeps : (cols ds : List Col) (vs us ws : List Column) (n : ℕ) → KeepsColumns cols vs n → KeepsColumns ds us n → cells_in ws ≡ cells_in vs ++ cells_in us → KeepsColumns (cols ++ ds) ws n
beside_keeps cols ds vs us ws n k m e =
    keeps_from (cols ++ ds) ws n (cells_in vs ++ cells_in us) e
    (long_append (cells_in vs) (cells_in us) ∙ (λ i. (map_long (λ w. w.value.items) vs ∙ k.as_many) i + (map_long (λ w. w.value.items) us ∙ m.as_many) i) ∙ sym (long_append cols ds))
    (subst (AllHigh n) (sym (heads_beside n (cells_in vs) (cells_in us))) (high_append n (heads n vs) (heads n us) k.as_high m.as_high))

pub beside_table : (vs us ws : List Column) (n : ℕ) → cells_in ws ≡ cells_in vs ++ cells_in us → rows_of (heads n ws) n ≡ rows_beside (rows_of (heads n vs) n) (rows_of (heads n us) n)
beside_table vs us ws n e =
    ap (λ z. rows_of (map (take n) z) n) e
    ∙ ap (λ z. rows_of z n) (heads_beside n (cells_in vs) (cells_in us))
    ∙ beside_rows (heads n vs) (heads n us) n

pub stacked_keeps : (cols ds : List Col) (vs us ws : List Column) (n m t : ℕ) → KeepsColumns cols vs n → KeepsColumns ds us m → length cols ≡ length ds → t ≡ n + m → cells_in ws ≡ zipped (heads n vs) (heads m us) → KeepsColumns cols ws t
stacked_keeps cols ds vs us ws n m t k j e s z =
    let same : length (heads n vs) ≡ length (heads m us) = many_heads cols vs n k ∙ e ∙ sym (many_heads ds us m j) in
    keeps_from cols ws t (zipped (heads n vs) (heads m us)) z (stacked_many (heads n vs) (heads m us) same ∙ many_heads cols vs n k)
    (high_heads t (zipped (heads n vs) (heads m us)) (stacked_high (heads n vs) (heads m us) n m t same k.as_high j.as_high s))

pub stacked_table : (cols ds : List Col) (vs us ws : List Column) (n m t : ℕ) → KeepsColumns cols vs n → KeepsColumns ds us m → length cols ≡ length ds → t ≡ n + m → cells_in ws ≡ zipped (heads n vs) (heads m us)
    → rows_of (heads t ws) t ≡ rows_of (heads n vs) n ++ rows_of (heads m us) m
stacked_table cols ds vs us ws n m t k j e s z =
    let same : length (heads n vs) ≡ length (heads m us) = many_heads cols vs n k ∙ e ∙ sym (many_heads ds us m j) in
    rows_are (zipped (heads n vs) (heads m us)) t ws z (stacked_high (heads n vs) (heads m us) n m t same k.as_high j.as_high s)
    ∙ stacked_rows (heads n vs) (heads m us) n m t same k.as_high s

pub single_keeps : (c : Col) (cells : List Item) (ws : List Column) → cells_in ws ≡ cells ∷ [] → KeepsColumns (c ∷ []) ws (length cells)
single_keeps c cells ws e = keeps_from (c ∷ []) ws (length cells) (cells ∷ []) e refl (high_heads (length cells) (cells ∷ []) (refl, tt))

pub single_table : (cells : List Item) (ws : List Column) → cells_in ws ≡ cells ∷ [] → rows_of (heads (length cells) ws) (length cells) ≡ single_rows cells
single_table cells ws e = rows_are (cells ∷ []) (length cells) ws e (refl, tt) ∙ single_is cells

pub pushed_keeps : (cols : List Col) (vs ws : List Column) (n t : ℕ) (row : List Item) → KeepsColumns cols vs n → length row ≡ length cols → t ≡ n + 1 → cells_in ws ≡ extended (heads n vs) row → KeepsColumns cols ws t
pushed_keeps cols vs ws n t row k m s e =
    let same : length row ≡ length (heads n vs) = m ∙ sym (many_heads cols vs n k) in
    keeps_from cols ws t (extended (heads n vs) row) e (extended_many (heads n vs) row ∙ many_heads cols vs n k)
    (high_heads t (extended (heads n vs) row) (extended_high (heads n vs) row n t same k.as_high s))

pub pushed_table : (cols : List Col) (vs ws : List Column) (n t : ℕ) (row : List Item) → KeepsColumns cols vs n → length row ≡ length cols → t ≡ n + 1 → cells_in ws ≡ extended (heads n vs) row → rows_of (heads t ws) t ≡ rows_of (heads n vs) n ++ row ∷ []
pushed_table cols vs ws n t row k m s e =
    let same : length row ≡ length (heads n vs) = m ∙ sym (many_heads cols vs n k) in
    rows_are (extended (heads n vs) row) t ws e (extended_high (heads n vs) row n t same k.as_high s)
    ∙ extended_rows (heads n vs) row n t same k.as_high s

-- the same heads, the same table
pub heads_keep : (cols : List Col) (vs ws : List Column) (n : ℕ) → KeepsColumns cols vs n → heads n ws ≡ heads n vs → KeepsColumns cols ws n
heads_keep cols vs ws n k e = record {
  as_many = sym (map_long (λ w. w.value.items) ws) ∙ sym (map_long (take n) (cells_in ws)) ∙ ap (λ (z : List (List Item)). length z) e ∙ many_heads cols vs n k;
  as_high = subst (AllHigh n) (sym e) k.as_high;
}

-- the same, of whole tables
abbrev pub whole : List Col → List (List Item) → Table Item
whole cols rows = record { cols = cols; rows = rows }

high_is : (t : Table Item) (cols : List Col) (vs : List Column) (n : ℕ) → whole cols (rows_of (heads n vs) n) ≡ t → n ≡ length t.rows
high_is t cols vs n v = sym (as_many_rows (heads n vs) n) ∙ ap (λ (z : Table Item). length z.rows) v

module _ (t made : Table Item) (cols : List Col) (vs us ws : List Column) (n : ℕ) (v : whole cols (rows_of (heads n vs) n) ≡ t) (u : us ≡ vs) where
  pub gathered_whole : (ps : List ℕ) → AllWithin (length t.rows) ps → made ≡ whole cols (rows_of (heads (length ps) ws) (length ps)) → cells_in ws ≡ gathered ps (heads n us) → made ≡ whole t.cols (rows_at t.rows ps)
  gathered_whole ps w m e =
      m
      ∙ ap (whole cols) (gathered_table vs ws n ps (subst (λ k. AllWithin k ps) (sym (high_is t cols vs n v)) w) (e ∙ ap (λ z. gathered ps (heads n z)) u))
      ∙ ap (λ (z : Table Item). whole z.cols (rows_at z.rows ps)) v

  pub chosen_whole : (ks names ds : List Col) → ks ≡ cols → made ≡ whole names (rows_of (heads n ws) n) → cells_in ws ≡ map (column_or ks (cells_in us)) ds → made ≡ whole names (map (cells_of t.cols ds) t.rows)
  chosen_whole ks names ds k m e =
      m
      ∙ ap (whole names) (chosen_table cols ds vs ws n (e ∙ (λ i. map (column_or (k i) (cells_in (u i))) ds)))
      ∙ ap (λ (z : Table Item). whole names (map (cells_of z.cols ds) z.rows)) v

-- another column's height
module _ (t u made : Table Item) (cols ds names : List Col) (vs us ws : List Column) (n m : ℕ) (v : whole cols (rows_of (heads n vs) n) ≡ t) (w : whole ds (rows_of (heads m us) m) ≡ u) (high : length t.rows ≡ length u.rows)
    (e : names ≡ cols ++ ds) (z : cells_in ws ≡ cells_in vs ++ cells_in us) where
  same_height : m ≡ n
  same_height = high_is u ds us m w ∙ sym high ∙ sym (high_is t cols vs n v)

  pub beside_need : KeepsColumns cols vs n → KeepsColumns ds us m → KeepsColumns names ws n
  beside_need k j = subst (λ c. KeepsColumns c ws n) (sym e) (beside_keeps cols ds vs us ws n k (subst (KeepsColumns ds us) same_height j) z)

  pub beside_whole : made ≡ whole names (rows_of (heads n ws) n) → made ≡ whole (t.cols ++ u.cols) (rows_beside t.rows u.rows)
  beside_whole g =
      g
      ∙ (λ i. whole (e i) (beside_table vs us ws n z i))
      ∙ ap (λ k. whole (cols ++ ds) (rows_beside (rows_of (heads n vs) n) (rows_of (heads k us) k))) (sym same_height)
      ∙ (λ i. whole ((v i).cols ++ (w i).cols) (rows_beside (v i).rows (w i).rows))

module _ (t u made : Table Item) (cols ds : List Col) (vs us ws : List Column) (n m h : ℕ) (v : whole cols (rows_of (heads n vs) n) ≡ t) (w : whole ds (rows_of (heads m us) m) ≡ u) (k : KeepsColumns cols vs n) (j : KeepsColumns ds us m)
    (many : length t.cols ≡ length u.cols) (s : h ≡ n + m) (z : cells_in ws ≡ zipped (heads n vs) (heads m us)) where
  as_many : length cols ≡ length ds
  as_many = ap (λ (x : Table Item). length x.cols) v ∙ many ∙ sym (ap (λ (x : Table Item). length x.cols) w)

  pub stack_need : KeepsColumns cols ws h
  stack_need = stacked_keeps cols ds vs us ws n m h k j as_many s z

  pub stack_whole : made ≡ whole cols (rows_of (heads h ws) h) → made ≡ whole t.cols (t.rows ++ u.rows)
  stack_whole g =
      g
      ∙ ap (whole cols) (stacked_table cols ds vs us ws n m h k j as_many s z)
      ∙ (λ i. whole (v i).cols ((v i).rows ++ (w i).rows))

pub single_whole : (made : Table Item) (c : Col) (names : List Col) (cells : List Item) (ws : List Column) (h : ℕ) → h ≡ length cells → names ≡ c ∷ [] → cells_in ws ≡ cells ∷ [] → made ≡ whole names (rows_of (heads h ws) h) → made ≡ whole (c ∷ []) (single_rows cells)
single_whole made c names cells ws h e k z g =
    g
    ∙ (λ i. whole (k i) (rows_of (heads (e i) ws) (e i)))
    ∙ ap (whole (c ∷ [])) (single_table cells ws z)

-- what is written back over as many columns
pub written : (len : ℕ) (news olds : List Column) → len ≡ length olds → length news ≡ length olds → take len (news ++ drop (length news) olds) ≡ news
written zero [] olds e f = refl
written zero (w ∷ news) [] e f = absurd (omega (arith, f))
written zero (w ∷ news) (v ∷ olds) e f = absurd (omega (arith, e))
written (suc n) [] [] e f = absurd (omega (arith, e))
written (suc n) [] (v ∷ olds) e f = absurd (omega (arith, f))
written (suc n) (w ∷ news) [] e f = absurd (omega (arith, f))
written (suc n) (w ∷ news) (v ∷ olds) e f = ap (λ z. w ∷ z) (written n news olds (omega (arith, e)) (omega (arith, f)))

pub on_err : {A E : Type 0} (r : Result A E) (P : Type 0) → P → OnErr r P
on_err (Ok x) P p = tt
on_err (Err e) P p = p

pub if_ok_at : {A E B : Type 0} (f : A → B) (r : Result A E) (x y : B) → x ≡ y → IfOk r (λ t. f t ≡ x) → IfOk r (λ t. f t ≡ y)
if_ok_at f (Ok a) x y e h = h ∙ e
if_ok_at f (Err b) x y e h = tt

-- an answer, as another value that equals it
pub if_ok_is : {A E : Type 0} (r : Result A E) (x y : A) → x ≡ y → IfOk r (λ t. t ≡ x) → IfOk r (λ t. t ≡ y)
if_ok_is (Ok a) x y e h = h ∙ e
if_ok_is (Err b) x y e h = tt

pub push_whole : (t : Table Item) (cols : List Col) (vs us ws xs : List Column) (n h : ℕ) (row : List Item) → whole cols (rows_of (heads n vs) n) ≡ t → KeepsColumns cols vs n → length row ≡ length t.cols → h ≡ n + 1 → us ≡ vs → xs ≡ ws → cells_in ws ≡ extended (heads n us) row
    → (KeepsColumns cols xs h) × (whole cols (rows_of (heads h xs) h) ≡ whole t.cols (t.rows ++ row ∷ []))
push_whole t cols vs us ws xs n h row v k m s u x e =
    let long : length row ≡ length cols = m ∙ sym (ap (λ (z : Table Item). length z.cols) v) in
    let all : cells_in ws ≡ extended (heads n vs) row = e ∙ ap (λ z. extended (heads n z) row) u in (
      subst (λ z. KeepsColumns cols z h) (sym x) (pushed_keeps cols vs ws n h row k long s all),
      ap (λ z. whole cols (rows_of (heads h z) h)) x ∙ ap (whole cols) (pushed_table cols vs ws n h row k long s all) ∙ ap (λ (z : Table Item). whole z.cols (z.rows ++ row ∷ [])) v,
    )

pub unpushed_whole : (t : Table Item) (cols : List Col) (vs us ws xs : List Column) (n : ℕ) → whole cols (rows_of (heads n vs) n) ≡ t → KeepsColumns cols vs n → us ≡ vs → xs ≡ ws → heads n ws ≡ heads n us
    → (KeepsColumns cols xs n) × (whole cols (rows_of (heads n xs) n) ≡ t)
unpushed_whole t cols vs us ws xs n v k u x e =
    let all : heads n xs ≡ heads n vs = ap (heads n) x ∙ e ∙ ap (heads n) u in
    (heads_keep cols vs xs n k all, ap (λ z. whole cols (rows_of z n)) all ∙ v)
