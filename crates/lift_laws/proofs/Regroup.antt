-- Several lists for each iteration become one.
use Rattle.std.proofs.Common.{◌≡◌, ℕ, ◌+◌, ◌<◌, Bool, true, false, ◌&&◌, List, [], ◌∷◌, ◌++◌, map, refl, ap, ◌∙◌, arith, Some, nat_eq, nat_lt}
use Rattle.std.specs.List.{flat_map}
use Rattle.std.proofs.lemmas.Bool.{lt-ltb}
use Rattle.plan_dag.specs.declared.keys.Key.{Key}
use Rattle.plan_dag.specs.ItemRules.{Cell, cell_eq}
use Rattle.plan_dag.specs.Rows.{ties}
use Rattle.plan_dag.specs.Meaning.{cell, same_part}
use Rattle.lift_laws.specs.Sums.{AllOf, Same}
use Rattle.lift_laws.specs.Iterations.{Row, num, item_rows, joined}
use Rattle.lift_laws.specs.States.{column}
use Rattle.lift_laws.specs.Shapes.{bare, less_by, up, pair, four, five, pick, regroup_rows}
use Rattle.lift_laws.proofs.Numbers.{nat_lt_self, nat_lt_above, nat_eq_turn, num_same}
use Rattle.lift_laws.proofs.Multi.{same-map, same-of, same-trans}
use Rattle.lift_laws.proofs.Picks.{Picked, map-flat, flat-all, all_each, all_mono, all-append}
use Rattle.lift_laws.proofs.Ranks.{part_self, less_self, goes_before, goes_beside, stamped, numbered_same, Goes, InRow, block_ranks, block_free}

-- rows (number, position, item, tag) of one list, from position j on
abbrev pub tagged : ℕ → ℕ → ℕ → List Cell → List Row
tagged n k j [] = []
tagged n k j (v ∷ vs) = (num n ∷ num j ∷ v ∷ num k ∷ []) ∷ tagged n k (j + 1) vs

-- the same of several lists, with tags from k on
abbrev pub grid : ℕ → ℕ → List (List Cell) → List Row
grid n k [] = []
grid n k (vs ∷ vss) = tagged n k 1 vs ++ grid n (k + 1) vss

abbrev keys : List Key
keys = up 3 ∷ up 1 ∷ []

abbrev part : Row → Row → Bool
part q r = same_part bare four (Some (column 0)) q r

abbrev under : Row → Row → Bool
under q r = less_by four keys q r

abbrev lt : Row → Row → Bool
lt q r = goes_before part under q r

abbrev tie : Row → Row → Bool
tie q r = goes_beside part under q r

lt_self : (r : Row) → lt r r ≡ false
lt_self r = rw (part_self four (Some (column 0)) r) (less_self four keys r)

abbrev cellrow : ℕ → ℕ → Cell → ℕ → Row
cellrow n j v k = num n ∷ num j ∷ v ∷ num k ∷ []

goes_tag : (n j j' k k' : ℕ) (v v' : Cell) → k < k' → Goes lt tie (cellrow n j v k) (cellrow n j' v' k')
goes_tag n j j' k k' v v' h =
    let a = nat_lt_self n in
    let b : nat_lt k k' ≡ true = lt-ltb k k' h in
    let c = nat_lt_above k k' h in
    (rw (a, b) refl, rw (a, b, c) refl, rw (a, b) refl, rw (a, b, c) refl)

goes_pos : (n j j' k : ℕ) (v v' : Cell) → j < j' → Goes lt tie (cellrow n j v k) (cellrow n j' v' k)
goes_pos n j j' k v v' h =
    let a = nat_lt_self n in
    let t = nat_lt_self k in
    let b : nat_lt j j' ≡ true = lt-ltb j j' h in
    let c = nat_lt_above j j' h in
    (rw (a, t, b) refl, rw (a, t, b, c) refl, rw (a, t, b) refl, rw (a, t, b, c) refl)

tagged_after_pos : (n k : ℕ) (j : ℕ) (v : Cell) (j' : ℕ) (vs : List Cell) → j < j' → AllOf (Goes lt tie (cellrow n j v k)) (tagged n k j' vs)
tagged_after_pos n k j v j' [] h = tt
tagged_after_pos n k j v j' (u ∷ us) h = (goes_pos n j j' k v u h, tagged_after_pos n k j v (j' + 1) us (omega arith))

tagged_after_tag : (n k k' j : ℕ) (v : Cell) (j' : ℕ) (vs : List Cell) → k < k' → AllOf (Goes lt tie (cellrow n j v k)) (tagged n k' j' vs)
tagged_after_tag n k k' j v j' [] h = tt
tagged_after_tag n k k' j v j' (u ∷ us) h = (goes_tag n j j' k k' v u h, tagged_after_tag n k k' j v (j' + 1) us h)

grid_after : (n k k' j : ℕ) (v : Cell) (vss : List (List Cell)) → k < k' → AllOf (Goes lt tie (cellrow n j v k)) (grid n k' vss)
grid_after n k k' j v [] h = tt
grid_after n k k' j v (vs ∷ vss) h = all-append _ (tagged n k' 1 vs) (grid n (k' + 1) vss) (tagged_after_tag n k k' j v 1 vs h) (grid_after n k (k' + 1) j v vss (omega arith))

tagged_then : (n k j : ℕ) (vs : List Cell) (rest : List Row) → ((j' : ℕ) (v : Cell) → AllOf (Goes lt tie (cellrow n j' v k)) rest) → InRow lt tie rest → InRow lt tie (tagged n k j vs ++ rest)
tagged_then n k j [] rest a s = s
tagged_then n k j (v ∷ vs) rest a s =
    (all-append _ (tagged n k (j + 1) vs) rest (tagged_after_pos n k j v (j + 1) vs (omega arith)) (a j v), tagged_then n k (j + 1) vs rest a s)

grid_in_row : (n k : ℕ) (vss : List (List Cell)) → InRow lt tie (grid n k vss)
grid_in_row n k [] = tt
grid_in_row n k (vs ∷ vss) = tagged_then n k 1 vs (grid n (k + 1) vss) (λ j v. grid_after n k (k + 1) j v vss (omega arith)) (grid_in_row n (k + 1) vss)

tagged_part : (n k j : ℕ) (vs : List Cell) → AllOf (λ r. cell bare four (column 0) r ≡ num n) (tagged n k j vs)
tagged_part n k j [] = tt
tagged_part n k j (v ∷ vs) = (refl, tagged_part n k (j + 1) vs)

grid_part : (n k : ℕ) (vss : List (List Cell)) → AllOf (λ r. cell bare four (column 0) r ≡ num n) (grid n k vss)
grid_part n k [] = tt
grid_part n k (vs ∷ vss) = all-append _ (tagged n k 1 vs) (grid n (k + 1) vss) (tagged_part n k 1 vs) (grid_part n (k + 1) vss)

grids_apart : (n m : ℕ) (us vs : List (List Cell)) → nat_eq m n ≡ false → AllOf (λ r. AllOf (λ q. (lt q r ≡ false) × (tie q r ≡ false)) (grid n 1 us)) (grid m 1 vs)
grids_apart n m us vs h =
    all_mono _ _ (λ r (e : cell bare four (column 0) r ≡ num m).
    all_mono _ _ (λ q (d : cell bare four (column 0) q ≡ num n).
    let p : part q r ≡ false = ap (λ c. cell_eq c (cell bare four (column 0) r)) d ∙ ap (λ c. cell_eq (num n) c) e ∙ num_same n m ∙ nat_eq_turn m n h in
    (ap (λ b. b && under q r) p, ap (λ b. b && ties bare under q r) p))
    (grid n 1 us) (grid_part n 1 us))
    (grid m 1 vs) (grid_part m 1 vs)

-- stamped rows, without tag and old position
abbrev out_row : Row → Row
out_row r = pick five (pair 0 0 ∷ pair 1 4 ∷ pair 2 2 ∷ []) r

tagged_out : (n k j m : ℕ) (vs : List Cell) (rest : List Row) (us : List Cell) → ((i : ℕ) → map out_row (stamped i rest) ≡ item_rows n i us) → map out_row (stamped m (tagged n k j vs ++ rest)) ≡ item_rows n m (vs ++ us)
tagged_out n k j m [] rest us h = h m
tagged_out n k j m (v ∷ vs) rest us h = ap (λ l. (num n ∷ num m ∷ v ∷ []) ∷ l) (tagged_out n k (j + 1) (m + 1) vs rest us h)

grid_out : (n k m : ℕ) (vss : List (List Cell)) → map out_row (stamped m (grid n k vss)) ≡ item_rows n m (joined vss)
grid_out n k m [] = refl
grid_out n k m (vs ∷ vss) = tagged_out n k 1 m vs (grid n (k + 1) vss) (joined vss) (λ i. grid_out n (k + 1) i vss)

module _ {X : Type 0} (key : X → ℕ) (F : X → List (List Cell)) where
  grids : List X → List Row
  grids xs = flat_map (λ x. grid (key x) 1 (F x)) xs

  pub regroup : (xs : List X) (t : List Row) → AllOf (Picked key xs) xs → Same t (flat_map (λ x. grid (key x) 1 (F x)) xs) → Same (regroup_rows t) (flat_map (λ x. item_rows (key x) 1 (joined (F x))) xs)
  regroup xs t p s =
      let block = λ (x : X). grid (key x) 1 (F x) in
      let apart = λ (x y : X) (h : nat_eq (key y) (key x) ≡ false). grids_apart (key x) (key y) (F x) (F y) h in
      let free = block_free lt tie lt_self key block apart xs p (λ x. grid_in_row (key x) 1 (F x)) in
      let ranks = block_ranks lt tie lt_self key block apart 0 xs p (λ x. grid_in_row (key x) 1 (F x)) in
      let n = numbered_same part under (part_self four (Some (column 0))) (less_self four keys) t (flat_map block xs) s free in
      same-trans (same-map out_row (same-trans n (same-of ranks)))
      (same-of (map-flat out_row (λ x. stamped 1 (block x)) xs ∙ flat-all _ _ xs (all_each _ (λ x. grid_out (key x) 1 1 (F x)) xs)))
