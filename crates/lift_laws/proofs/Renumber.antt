-- New positions, in the order of the old ones.
use Rattle.std.proofs.Common.{◌≡◌, ℕ, ◌+◌, ◌<◌, ◌≤◌, Bool, true, false, ◌&&◌, List, [], ◌∷◌, map, refl, ap, ◌∙◌, arith, Some, nat_eq, nat_lt}
use Rattle.std.specs.List.{flat_map}
use Rattle.std.proofs.lemmas.Bool.{lt-ltb}
use Rattle.plan_dag.specs.declared.keys.Key.{Key}
use Rattle.plan_dag.specs.ItemRules.{Cell, cell_eq}
use Rattle.plan_dag.specs.Rows.{ties}
use Rattle.plan_dag.specs.Meaning.{cell, same_part}
use Rattle.lift_laws.specs.Sums.{AllOf, Ascends, Same}
use Rattle.lift_laws.specs.Iterations.{Row, Iter, num, item_rows, value_rows}
use Rattle.lift_laws.specs.States.{column, three}
use Rattle.lift_laws.specs.Shapes.{bare, less_by, up, pair, pick, four}
use Rattle.lift_laws.specs.Places.{renumbered_rows}
use Rattle.lift_laws.proofs.Numbers.{nat_lt_self, nat_lt_above, nat_eq_turn, num_same}
use Rattle.lift_laws.proofs.Multi.{same-map, same-of, same-trans}
use Rattle.lift_laws.proofs.Picks.{picks, map-flat, flat-all, all_each, all_mono}
use Rattle.lift_laws.proofs.Ranks.{part_self, less_self, goes_before, goes_beside, stamped, numbered_same, Goes, InRow, block_ranks, block_free}

-- cells at places, and their rows in one iteration
abbrev pub AtPlaces : Type 0
AtPlaces = List (ℕ × Cell)

abbrev pub placed : ℕ → AtPlaces → List Row
placed n [] = []
placed n (p ∷ ps) = (num n ∷ num p.0 ∷ p.1 ∷ []) ∷ placed n ps

abbrev pub items_in : AtPlaces → List Cell
items_in ps = map (λ (p : ℕ × Cell). p.1) ps

abbrev pub place : ℕ × Cell → ℕ
place p = p.0

abbrev keys : List Key
keys = up 1 ∷ []

abbrev part : Row → Row → Bool
part q r = same_part bare three (Some (column 0)) q r

abbrev under : Row → Row → Bool
under q r = less_by three keys q r

abbrev lt : Row → Row → Bool
lt q r = goes_before part under q r

abbrev tie : Row → Row → Bool
tie q r = goes_beside part under q r

lt_self : (r : Row) → lt r r ≡ false
lt_self r = rw (part_self three (Some (column 0)) r) (less_self three keys r)

goes : (n j k : ℕ) (v u : Cell) → j < k → Goes lt tie (num n ∷ num j ∷ v ∷ []) (num n ∷ num k ∷ u ∷ [])
goes n j k v u h =
    let a = nat_lt_self n in
    let b : nat_lt j k ≡ true = lt-ltb j k h in
    let c = nat_lt_above j k h in
    (rw (a, b) refl, rw (a, b, c) refl, rw (a, b) refl, rw (a, b, c) refl)

after : (n j k : ℕ) (v : Cell) (ps : AtPlaces) → j ≤ k → Ascends place k ps → AllOf (Goes lt tie (num n ∷ num j ∷ v ∷ [])) (placed n ps)
after n j k v [] h a = tt
after n j k v (p ∷ ps) h a = let q = a.0 in (goes n j p.0 v p.1 (omega arith), after n j p.0 v ps (omega arith) a.1)

in_row : (n k : ℕ) (ps : AtPlaces) → Ascends place k ps → InRow lt tie (placed n ps)
in_row n k [] a = tt
in_row n k (p ∷ ps) a = (after n p.0 p.0 p.1 ps (omega arith) a.1, in_row n p.0 ps a.1)

placed_part : (n : ℕ) (ps : AtPlaces) → AllOf (λ r. cell bare three (column 0) r ≡ num n) (placed n ps)
placed_part n [] = tt
placed_part n (p ∷ ps) = (refl, placed_part n ps)

apart : (n m : ℕ) (ps qs : AtPlaces) → nat_eq m n ≡ false → AllOf (λ r. AllOf (λ q. (lt q r ≡ false) × (tie q r ≡ false)) (placed n ps)) (placed m qs)
apart n m ps qs h =
    all_mono _ _ (λ r (e : cell bare three (column 0) r ≡ num m).
    all_mono _ _ (λ q (d : cell bare three (column 0) q ≡ num n).
    let p : part q r ≡ false = ap (λ c. cell_eq c (cell bare three (column 0) r)) d ∙ ap (λ c. cell_eq (num n) c) e ∙ num_same n m ∙ nat_eq_turn m n h in
    (ap (λ b. b && under q r) p, ap (λ b. b && ties bare under q r) p))
    (placed n ps) (placed_part n ps))
    (placed m qs) (placed_part m qs)

abbrev out_row : Row → Row
out_row r = pick four (pair 0 0 ∷ pair 1 3 ∷ pair 2 2 ∷ []) r

out_placed : (n k : ℕ) (ps : AtPlaces) → map out_row (stamped k (placed n ps)) ≡ item_rows n k (items_in ps)
out_placed n k [] = refl
out_placed n k (p ∷ ps) = ap (λ l. (num n ∷ num k ∷ p.1 ∷ []) ∷ l) (out_placed n (k + 1) ps)

pub renumber_stands : (F : Iter → AtPlaces) (its : List Iter) (t : List Row) → Ascends (λ i. i.number) 0 its → ((i : Iter) → Ascends place 0 (F i)) → Same t (flat_map (λ i. placed i.number (F i)) its) → Same (renumbered_rows t) (value_rows (λ i. items_in (F i)) its)
renumber_stands F its t asc rises s =
    let key = λ (i : Iter). i.number in
    let block = λ (i : Iter). placed i.number (F i) in
    let p = picks (λ i. i.number) 0 its asc in
    let parted = λ (x y : Iter) (z : nat_eq y.number x.number ≡ false). apart x.number y.number (F x) (F y) z in
    let rows = λ (x : Iter). in_row x.number 0 (F x) (rises x) in
    let free = block_free lt tie lt_self key block parted its p rows in
    let ranks = block_ranks lt tie lt_self key block parted 0 its p rows in
    let n = numbered_same part under (part_self three (Some (column 0))) (less_self three keys) t (flat_map block its) s free in
    same-trans (same-map out_row (same-trans n (same-of ranks)))
    (same-of (map-flat out_row (λ x. stamped 1 (block x)) its ∙ flat-all _ _ its (all_each _ (λ x. out_placed x.number 1 (F x)) its)))
