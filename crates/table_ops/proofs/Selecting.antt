-- Rows at places that a test picks, and places that are within.
use Rattle.std.proofs.Common.{◌≡◌, ◌<◌, ◌≤◌, ◌+◌, ◌++◌, ◌∙◌, ℕ, suc, Bool, true, false, cond, List, [], ◌∷◌, length, map, nat_eq, refl, ap, sym, subst, arith, replicate}
use Rattle.std.specs.Prelude.{slice_index_or}
use Rattle.std.specs.List.{filter}
use Rattle.xq_base.specs.declared.item.Item.{Item}
use Rattle.plan_dag.specs.declared.cols.Col.{Col}
use Rattle.plan_dag.specs.Meaning.{cell_or}
use Rattle.table_ops.specs.Chains.{places_of, pairs_from}
use Rattle.table_ops.specs.Columns.{rows_at, AllWithin, rows_beside, single_rows, cells_at, no_cell}
use Rattle.table_ops.specs.Joins.{pair_rows}
use Rattle.table_ops.specs.Keys.{new_places}
use Rattle.table_ops.specs.Picks.{is_true_item}
use Rattle.table_ops.proofs.Lists.{app, map_long, longer, at_end}

module _ {C X : Type 0} (test : X → Bool) (g : List C → X) where
  pub picked : (done rows : List (List C)) → rows_at (done ++ rows) (places_of test (length done) (map g rows)) ≡ filter (λ r. test (g r)) rows
  picked done [] = refl
  picked done (r ∷ rows) =
      by (test (g r))
      (ap (λ n. rows_at (done ++ r ∷ rows) (places_of test n (map g rows))) (sym (longer done r))
      ∙ ap (λ z. rows_at z (places_of test (length (done ++ r ∷ [])) (map g rows))) (sym (app done r rows))
      ∙ picked (done ++ r ∷ []) rows)
    where
      by : (b : Bool) → rows_at (done ++ r ∷ rows) (places_of test (suc (length done)) (map g rows)) ≡ filter (λ r. test (g r)) rows
          → rows_at (done ++ r ∷ rows) (cond b (length done ∷ places_of test (suc (length done)) (map g rows)) (places_of test (suc (length done)) (map g rows)))
          ≡ cond b (r ∷ filter (λ r. test (g r)) rows) (filter (λ r. test (g r)) rows)
      by true e = λ i. at_end done r rows [] i ∷ e i
      by false e = e

-- the values at places that a test picks
module _ {X Y Z : Type 0} (test : Y → Bool) (g : X → Y) (v : X → Z) (d : Z) where
  pub picked_values : (done xs : List X) → map (λ p. slice_index_or (map v (done ++ xs)) p d) (places_of test (length done) (map g xs)) ≡ map v (filter (λ x. test (g x)) xs)
  picked_values done [] = refl
  picked_values done (x ∷ xs) =
      by (test (g x))
      (ap (λ n. map (λ p. slice_index_or (map v (done ++ x ∷ xs)) p d) (places_of test n (map g xs))) (sym (longer done x))
      ∙ ap (λ z. map (λ p. slice_index_or (map v z) p d) (places_of test (length (done ++ x ∷ [])) (map g xs))) (sym (app done x xs))
      ∙ picked_values (done ++ x ∷ []) xs)
    where
      here : (done : List X) → slice_index_or (map v (done ++ x ∷ xs)) (length done) d ≡ v x
      here [] = refl
      here (y ∷ done) = here done

      by : (b : Bool) → map (λ p. slice_index_or (map v (done ++ x ∷ xs)) p d) (places_of test (suc (length done)) (map g xs)) ≡ map v (filter (λ x. test (g x)) xs)
          → map (λ p. slice_index_or (map v (done ++ x ∷ xs)) p d) (cond b (length done ∷ places_of test (suc (length done)) (map g xs)) (places_of test (suc (length done)) (map g xs)))
          ≡ map v (cond b (x ∷ filter (λ x. test (g x)) xs) (filter (λ x. test (g x)) xs))
      by true e = λ i. here done i ∷ e i
      by false e = e

pub within_from : {X : Type 0} (test : X → Bool) (i n : ℕ) (xs : List X) → i + length xs ≤ n → AllWithin n (places_of test i xs)
within_from test i n [] h = tt
within_from test i n (x ∷ xs) h = by (test x) (within_from test (suc i) n xs (omega (arith, h)))
  where
    by : (b : Bool) → AllWithin n (places_of test (suc i) xs) → AllWithin n (cond b (i ∷ places_of test (suc i) xs) (places_of test (suc i) xs))
    by true r = (omega (arith, h), r)
    by false r = r

pub cells_many : (cols : List Col) (c : Col) (rows : List (List Item)) → length (cells_at cols c rows) ≡ length rows
cells_many cols c rows = map_long (cell_or no_cell cols c) rows

pub few_cells : (n : ℕ) (cols : List Col) (c : Col) (rows : List (List Item)) (cells : List Item) → cells ≡ cells_at cols c rows → length rows < n → length cells < n
few_cells n cols c rows cells e h = subst (λ k. k < n) (sym (ap (λ (z : List Item). length z) e ∙ cells_many cols c rows)) h

-- the rows whose cell in a column is true
pub true_rows : (cols : List Col) (c : Col) (rows : List (List Item)) → rows_at rows (places_of is_true_item 0 (cells_at cols c rows)) ≡ filter (λ q. is_true_item (cell_or no_cell cols c q)) rows
true_rows cols c rows = picked is_true_item (cell_or no_cell cols c) [] rows

pub true_within : (cols : List Col) (c : Col) (rows : List (List Item)) → AllWithin (length rows) (places_of is_true_item 0 (cells_at cols c rows))
true_within cols c rows = within_from is_true_item 0 (length rows) (cells_at cols c rows) (omega (arith, map_long (cell_or no_cell cols c) rows))

-- a constant beside each row
pub attached_rows : {C : Type 0} (v : C) (rows : List (List C)) → rows_beside rows (single_rows (replicate (length rows) v)) ≡ map (λ q. q ++ v ∷ []) rows
attached_rows v [] = refl
attached_rows v (r ∷ rows) = ap (λ z. (r ++ v ∷ []) ∷ z) (attached_rows v rows)

-- the places of pairs
pub lefts_within : (l n : ℕ) (ks ms : List ℕ) → l + length ks ≤ n → AllWithin n (map (λ p. p.0) (pairs_from l ks ms))
lefts_within l n [] ms h = tt
lefts_within l n (k ∷ ks) ms h = both (places_of (nat_eq k) 0 ms) (lefts_within (suc l) n ks ms (omega (arith, h)))
  where
    both : (ps : List ℕ) → AllWithin n (map (λ p. p.0) (pairs_from (suc l) ks ms)) → AllWithin n (map (λ p. p.0) (map (λ r. (l, r)) ps ++ pairs_from (suc l) ks ms))
    both [] r = r
    both (p ∷ ps) r = (omega (arith, h), both ps r)

pub rights_within : (l n : ℕ) (ks ms : List ℕ) → length ms ≤ n → AllWithin n (map (λ p. p.1) (pairs_from l ks ms))
rights_within l n [] ms h = tt
rights_within l n (k ∷ ks) ms h = both (places_of (nat_eq k) 0 ms) (within_from (nat_eq k) 0 n ms (omega (arith, h))) (rights_within (suc l) n ks ms h)
  where
    both : (ps : List ℕ) → AllWithin n ps → AllWithin n (map (λ p. p.1) (pairs_from (suc l) ks ms)) → AllWithin n (map (λ p. p.1) (map (λ r. (l, r)) ps ++ pairs_from (suc l) ks ms))
    both [] w r = r
    both (p ∷ ps) w r = (w.0, both ps w.1 r)

pub pairs_beside : {C : Type 0} (ls rs : List (List C)) (ps : List (ℕ × ℕ)) → rows_beside (rows_at ls (map (λ p. p.0) ps)) (rows_at rs (map (λ p. p.1) ps)) ≡ pair_rows ls rs ps
pairs_beside ls rs [] = refl
pairs_beside ls rs (p ∷ ps) = ap (λ z. (slice_index_or ls p.0 [] ++ slice_index_or rs p.1 []) ∷ z) (pairs_beside ls rs ps)

pub places_many : {C : Type 0} (rows : List (List C)) (ps : List ℕ) → length (rows_at rows ps) ≡ length ps
places_many rows ps = map_long (λ p. slice_index_or rows p []) ps

pub new_within : (s i n : ℕ) (ks : List ℕ) → i + length ks ≤ n → AllWithin n (new_places s i ks)
new_within s i n [] h = tt
new_within s i n (k ∷ ks) h = by (nat_eq k s) (new_within (suc s) (suc i) n ks (omega (arith, h))) (new_within s (suc i) n ks (omega (arith, h)))
  where
    by : (b : Bool) → AllWithin n (new_places (suc s) (suc i) ks) → AllWithin n (new_places s (suc i) ks) → AllWithin n (cond b (i ∷ new_places (suc s) (suc i) ks) (new_places s (suc i) ks))
    by true x y = (omega (arith, h), x)
    by false x y = y
