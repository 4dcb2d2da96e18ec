-- Rows of columns.
use Rattle.std.proofs.Common.{◌≡◌, ◌<◌, ◌≤◌, ◌+◌, ◌++◌, ◌∙◌, ℕ, zero, suc, List, [], ◌∷◌, length, map, refl, ap, sym, arith}
use Rattle.std.specs.Prelude.{slice_index_or}
use Rattle.xq_base.specs.declared.item.Item.{Item}
use Rattle.table_ops.specs.Columns.{numbers_from, cell_of, row_at, rows_of, gathered, rows_at, AllWithin, AllHigh}

count_from : {X : Type 0} (f : ℕ → X) (k n : ℕ) → length (map f (numbers_from k n)) ≡ n
count_from f k zero = refl
count_from f k (suc n) = ap suc (count_from f (suc k) n)

pub as_many_rows : (columns : List (List Item)) (n : ℕ) → length (rows_of columns n) ≡ n
as_many_rows columns n = count_from (row_at columns) 0 n

cell_there : (cells : List Item) (ps : List ℕ) (k : ℕ) → k < length ps → cell_of (map (cell_of cells) ps) k ≡ cell_of cells (slice_index_or ps k 0)
cell_there cells [] k h = absurd (omega (arith, h))
cell_there cells (p ∷ ps) zero h = refl
cell_there cells (p ∷ ps) (suc k) h = cell_there cells ps k (omega (arith, h))

row_there : (cs : List (List Item)) (ps : List ℕ) (k : ℕ) → k < length ps → row_at (gathered ps cs) k ≡ row_at cs (slice_index_or ps k 0)
row_there [] ps k h = refl
row_there (c ∷ cs) ps k h = λ i. cell_there c ps k h i ∷ row_there cs ps k h i

pub drop_all : {X : Type 0} (f g : ℕ → X) (k n : ℕ) → ((j : ℕ) → k ≤ j → j < k + n → f j ≡ g j) → map f (numbers_from k n) ≡ map g (numbers_from k n)
drop_all f g k zero h = refl
drop_all f g k (suc n) h = λ i. h k (omega arith) (omega arith) i ∷ drop_all f g (suc k) n (λ j a b. h j (omega (arith, a)) (omega (arith, b))) i

pub by_places : {X Y : Type 0} (d : X) (f : X → Y) (done ps : List X) → map (λ k. f (slice_index_or (done ++ ps) k d)) (numbers_from (length done) (length ps)) ≡ map f ps
by_places d f done [] = refl
by_places {X} d f done (p ∷ ps) =
    let here : slice_index_or (done ++ p ∷ ps) (length done) d ≡ p = end done p ps in
    let more : map (λ k. f (slice_index_or (done ++ p ∷ ps) k d)) (numbers_from (suc (length done)) (length ps)) ≡ map f ps =
    ap (λ (z : List X). map (λ k. f (slice_index_or z k d)) (numbers_from (suc (length done)) (length ps))) (sym (shift done p ps))
    ∙ ap (λ n. map (λ k. f (slice_index_or ((done ++ p ∷ []) ++ ps) k d)) (numbers_from n (length ps))) (sym (longer done p))
    ∙ by_places d f (done ++ p ∷ []) ps in
    λ i. f (here i) ∷ more i
  where
    end : (done : List X) (p : X) (ps : List X) → slice_index_or (done ++ p ∷ ps) (length done) d ≡ p
    end [] p ps = refl
    end (q ∷ done) p ps = end done p ps

    shift : (done : List X) (p : X) (ps : List X) → (done ++ p ∷ []) ++ ps ≡ done ++ p ∷ ps
    shift [] p ps = refl
    shift (q ∷ done) p ps = ap (λ z. q ∷ z) (shift done p ps)

    longer : (done : List X) (p : X) → length (done ++ p ∷ []) ≡ suc (length done)
    longer [] p = refl
    longer (q ∷ done) p = ap suc (longer done p)

-- gathered columns have the rows at the places
pub gathered_rows : (cs : List (List Item)) (ps : List ℕ) → rows_of (gathered ps cs) (length ps) ≡ map (row_at cs) ps
gathered_rows cs ps =
    drop_all (row_at (gathered ps cs)) (λ k. row_at cs (slice_index_or ps k 0)) 0 (length ps) (λ j a b. row_there cs ps j (omega (arith, b)))
    ∙ by_places 0 (row_at cs) [] ps

row_of_table : (cs : List (List Item)) (k n p : ℕ) → p < n → slice_index_or (map (row_at cs) (numbers_from k n)) p [] ≡ row_at cs (k + p)
row_of_table cs k zero p h = absurd (omega (arith, h))
row_of_table cs k (suc n) zero h = ap (row_at cs) (omega arith)
row_of_table cs k (suc n) (suc p) h = row_of_table cs (suc k) n p (omega (arith, h)) ∙ ap (row_at cs) (omega arith)

pub rows_at_places : (cs : List (List Item)) (n : ℕ) (ps : List ℕ) → AllWithin n ps → rows_at (rows_of cs n) ps ≡ map (row_at cs) ps
rows_at_places cs n [] h = refl
rows_at_places cs n (p ∷ ps) h = λ i. (row_of_table cs 0 n p h.0 ∙ ap (row_at cs) (zero_plus p)) i ∷ rows_at_places cs n ps h.1 i
  where
    zero_plus : (p : ℕ) → 0 + p ≡ p
    zero_plus p = omega arith

-- their columns are as many, and as high
pub gathered_high : (ps : List ℕ) (cs : List (List Item)) → AllHigh (length ps) (gathered ps cs)
gathered_high ps [] = tt
gathered_high ps (c ∷ cs) = (length_map (cell_of c) ps, gathered_high ps cs)
  where
    length_map : {X Y : Type 0} (f : X → Y) (xs : List X) → length (map f xs) ≡ length xs
    length_map f [] = refl
    length_map f (x ∷ xs) = ap suc (length_map f xs)
