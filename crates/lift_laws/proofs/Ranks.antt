-- Numbers by keys.
use Rattle.std.proofs.Common.{◌≡◌, ℕ, ◌+◌, ◌-◌, ◌≤◌, Bool, true, false, cond, ◌&&◌, List, [], ◌∷◌, ◌++◌, length, map, refl, sym, ap, ◌∙◌, arith, append_assoc, zero-add, nat_eq}
use Rattle.std.specs.List.{filter, flat_map}
use Rattle.plan_dag.specs.declared.cols.Col.{Col}
use Rattle.plan_dag.specs.declared.keys.Key.{Key}
use Rattle.plan_dag.specs.ItemRules.{Cell}
use Rattle.plan_dag.specs.Rows.{numbered, rownum_rows, ties, key_less}
use Rattle.plan_dag.specs.Meaning.{same_part, cell}
use Rattle.std.proofs.Common.{Option, Some, None}
use Rattle.lift_laws.specs.Sums.{total, count, bit, AllOf, Same}
use Rattle.lift_laws.specs.Iterations.{Row, num}
use Rattle.lift_laws.specs.Shapes.{bare, less_by}
use Rattle.lift_laws.proofs.Numbers.{cell_eq_self, cell_less_self}
use Rattle.lift_laws.proofs.Multi.{same-map, same-of, same-trans, length-filter, total-append, total-flat}
use Rattle.lift_laws.proofs.Picks.{Picked, map-flat, all-flat, all_each, all_mono, total-all, map-all, flat-all}

-- a row is of its own part and not before itself
pub part_self : (cs : List Col) (p : Option Col) (r : Row) → same_part bare cs p r r ≡ true
part_self cs None r = refl
part_self cs (Some c) r = cell_eq_self (cell bare cs c r)

key_self : (d : Bool) (v : Cell) → key_less bare d v v ≡ false
key_self true v = cell_less_self v
key_self false v = cell_less_self v

pub less_self : (cs : List Col) (ks : List Key) (r : Row) → less_by cs ks r r ≡ false
less_self cs [] r = refl
less_self cs (k ∷ ks) r = rw (key_self k.descending (cell bare cs k.col r)) (less_self cs ks r)

-- the part and the order, or the tie, as one test
abbrev pub goes_before : (Row → Row → Bool) → (Row → Row → Bool) → Row → Row → Bool
goes_before part lt q r = part q r && lt q r

abbrev pub goes_beside : (Row → Row → Bool) → (Row → Row → Bool) → Row → Row → Bool
goes_beside part lt q r = part q r && ties bare lt q r

-- a row with its number by an order over a list
abbrev pub ranked : (Row → Row → Bool) → List Row → Row → Row
ranked lt all r = r ++ num (1 + count (λ q. lt q r) all) ∷ []

-- rows with numbers from n on
abbrev pub stamped : ℕ → List Row → List Row
stamped n [] = []
stamped n (r ∷ rs) = (r ++ num n ∷ []) ∷ stamped (n + 1) rs

module _ (part under : Row → Row → Bool) (part_same : (r : Row) → part r r ≡ true) (not_under : (r : Row) → under r r ≡ false) where
  abbrev lt : Row → Row → Bool
  lt q r = goes_before part under q r

  abbrev tie : Row → Row → Bool
  tie q r = goes_beside part under q r

  tie_self : (r : Row) → tie r r ≡ true
  tie_self r = rw (part_same r, not_under r) refl

  free : (all pre rs : List Row) → all ≡ pre ++ rs → AllOf (λ r. count (λ q. tie q r) all ≤ 1) rs → numbered bare part under all pre rs ≡ map (ranked lt all) rs
  free all pre [] e a = refl
  free all pre (r ∷ rs) e a =
      let h = a.0 in
      let c : count (λ q. tie q r) all ≡ count (λ q. tie q r) pre + (bit (tie r r) + count (λ q. tie q r) rs) =
      ap (count (λ q. tie q r)) e ∙ total-append (λ q. bit (tie q r)) pre (r ∷ rs) in
      let d : bit (tie r r) ≡ 1 = ap bit (tie_self r) in
      let z : count (λ q. tie q r) pre ≡ 0 = omega arith in
      let f = length-filter (λ q. lt q r) all in
      let g = length-filter (λ q. tie q r) pre in
      let k : 1 + length (filter (λ q. lt q r) all) + length (filter (λ q. tie q r) pre) ≡ 1 + count (λ q. lt q r) all = omega arith in
      let t = free all (pre ++ r ∷ []) rs (e ∙ sym (append_assoc pre (r ∷ []) rs)) a.1 in
      ap (λ n. (r ++ num n ∷ []) ∷ numbered bare part under all (pre ++ r ∷ []) rs) k ∙ ap (λ l. ranked lt all r ∷ l) t

  total_zero_all : (w : Row → ℕ) (xs : List Row) → total w xs ≡ 0 → AllOf (λ x. w x ≡ 0) xs
  total_zero_all w [] e = tt
  total_zero_all w (x ∷ xs) e = (omega arith, total_zero_all w xs (omega arith))

  all_total_zero : (w : Row → ℕ) (xs : List Row) → AllOf (λ x. w x ≡ 0) xs → total w xs ≡ 0
  all_total_zero w [] e = refl
  all_total_zero w (x ∷ xs) e = let h = e.0 in let t = all_total_zero w xs e.1 in omega arith

  -- the numbers are those of a list with the same rows, where no two rows of it tie
  pub numbered_same : (rows canon : List Row) → Same rows canon → AllOf (λ r. count (λ q. tie q r) canon ≤ 1) canon → Same (rownum_rows bare part under rows) (map (ranked lt canon) canon)
  numbered_same rows canon s a =
      let v = λ (r : Row). count (λ q. tie q r) canon - 1 in
      let zero_canon = all_total_zero v canon (all_mono _ _ (λ r (h : count (λ q. tie q r) canon ≤ 1). let e : v r ≡ 0 = omega arith in e) canon a) in
      let zero_rows = total_zero_all v rows (s.at v ∙ zero_canon) in
      let few : AllOf (λ r. count (λ q. tie q r) rows ≤ 1) rows =
      all_mono _ _ (λ r (h : v r ≡ 0). let e = s.at (λ q. bit (tie q r)) in let l : count (λ q. tie q r) rows ≤ 1 = omega arith in l) rows zero_rows in
      same-trans (same-of (free rows [] rows refl few ∙ map-all (ranked lt rows) (ranked lt canon) rows (all_each _ (λ r. ap (λ n. r ++ num (1 + n) ∷ []) (s.at (λ q. bit (lt q r)))) rows)))
      (same-map (ranked lt canon) s)

-- the first row is before the second, and they do not tie
abbrev pub Goes : (Row → Row → Bool) → (Row → Row → Bool) → Row → Row → Type 0
Goes lt tie x y = (lt x y ≡ true) × (lt y x ≡ false) × (tie x y ≡ false) × (tie y x ≡ false)

-- each row is before all behind it
abbrev pub InRow : (Row → Row → Bool) → (Row → Row → Bool) → List Row → Type 0
InRow lt tie [] = Unit {0}
InRow lt tie (x ∷ xs) = AllOf (Goes lt tie x) xs × InRow lt tie xs

module _ (lt tie : Row → Row → Bool) (irr : (r : Row) → lt r r ≡ false) where
  none_less : (x : Row) (xs : List Row) → AllOf (Goes lt tie x) xs → count (λ q. lt q x) xs ≡ 0
  none_less x [] a = refl
  none_less x (y ∷ ys) a = let h = ap bit a.0.1 in let t = none_less x ys a.1 in omega arith

  none_tied : (x : Row) (xs : List Row) → AllOf (Goes lt tie x) xs → count (λ q. tie q x) xs ≡ 0
  none_tied x [] a = refl
  none_tied x (y ∷ ys) a = let h = ap bit a.0.3 in let t = none_tied x ys a.1 in omega arith

  pub in_row_ranks : (n : ℕ) (rs : List Row) → InRow lt tie rs → map (λ r. r ++ num (1 + (n + count (λ q. lt q r) rs)) ∷ []) rs ≡ stamped (1 + n) rs
  in_row_ranks n [] s = refl
  in_row_ranks n (x ∷ xs) s =
      let z = none_less x xs s.0 in
      let i = ap bit (irr x) in
      let k : 1 + (n + count (λ q. lt q x) (x ∷ xs)) ≡ 1 + n = omega arith in
      let m : 1 + (n + 1) ≡ 1 + n + 1 = omega arith in
      let rest = map-all (λ r. r ++ num (1 + (n + count (λ q. lt q r) (x ∷ xs))) ∷ []) (λ r. r ++ num (1 + (n + 1 + count (λ q. lt q r) xs)) ∷ []) xs
      (all_mono _ _ (λ r (g : Goes lt tie x r).
      let b = ap bit g.0 in
      let e : 1 + (n + (bit (lt x r) + count (λ q. lt q r) xs)) ≡ 1 + (n + 1 + count (λ q. lt q r) xs) = omega arith in
      ap (λ k. r ++ num k ∷ []) e) xs s.0) in
      ap (λ k. (x ++ num k ∷ []) ∷ map (λ r. r ++ num (1 + (n + count (λ q. lt q r) (x ∷ xs))) ∷ []) xs) k
      ∙ ap (λ l. (x ++ num (1 + n) ∷ []) ∷ l) (rest ∙ in_row_ranks (n + 1) xs s.1 ∙ ap (λ k. stamped k xs) m)

  pub in_row_free : (rs : List Row) → InRow lt tie rs → AllOf (λ r. count (λ q. tie q r) rs ≤ 1) rs
  in_row_free [] s = tt
  in_row_free (x ∷ xs) s = (
    (let z = none_tied x xs s.0 in let b = bit_most (tie x x) in omega arith),
    both_all xs s.0 (in_row_free xs s.1),
  )
    where
      bit_most : (b : Bool) → bit b ≤ 1
      bit_most true = omega arith
      bit_most false = omega arith

      both_all : (ys : List Row) → AllOf (Goes lt tie x) ys → AllOf (λ r. count (λ q. tie q r) xs ≤ 1) ys → AllOf (λ r. count (λ q. tie q r) (x ∷ xs) ≤ 1) ys
      both_all [] a b = tt
      both_all (y ∷ ys) a b = ((let h = ap bit a.0.2 in let c = b.0 in omega arith), both_all ys a.1 b.1)

  pub in_row_ranked : (rs : List Row) → InRow lt tie rs → map (ranked lt rs) rs ≡ stamped 1 rs
  in_row_ranked rs s =
      map-all (ranked lt rs) (λ r. r ++ num (1 + (0 + count (λ q. lt q r) rs)) ∷ []) rs (all_each _ (λ r. ap (λ n. r ++ num (1 + n) ∷ []) (sym (zero-add (count (λ q. lt q r) rs)))) rs)
      ∙ in_row_ranks 0 rs s

  -- blocks of rows that no order and no tie joins
  module _ {X : Type 0} (key : X → ℕ) (block : X → List Row)
      (apart : (x y : X) → nat_eq (key y) (key x) ≡ false → AllOf (λ r. AllOf (λ q. (lt q r ≡ false) × (tie q r ≡ false)) (block x)) (block y)) where
    zero_lt : (r : Row) (rs : List Row) → AllOf (λ q. (lt q r ≡ false) × (tie q r ≡ false)) rs → (count (λ q. lt q r) rs ≡ 0) × (count (λ q. tie q r) rs ≡ 0)
    zero_lt r [] a = (refl, refl)
    zero_lt r (q ∷ qs) a = let h = ap bit a.0.0 in let k = ap bit a.0.1 in let t = zero_lt r qs a.1 in (omega arith, omega arith)

    in_block : (x y : X) → AllOf (λ r. (count (λ q. lt q r) (block x) ≡ cond (nat_eq (key y) (key x)) (count (λ q. lt q r) (block x)) 0) × (count (λ q. tie q r) (block x) ≡ cond (nat_eq (key y) (key x)) (count (λ q. tie q r) (block x)) 0)) (block y)
    in_block x y = go (nat_eq (key y) (key x)) refl
      where
        go : (b : Bool) → nat_eq (key y) (key x) ≡ b → AllOf (λ r. (count (λ q. lt q r) (block x) ≡ cond (nat_eq (key y) (key x)) (count (λ q. lt q r) (block x)) 0) × (count (λ q. tie q r) (block x) ≡ cond (nat_eq (key y) (key x)) (count (λ q. tie q r) (block x)) 0)) (block y)
        go true e = all_each _ (λ r. (ap (λ b. cond b (count (λ q. lt q r) (block x)) 0) (sym e), ap (λ b. cond b (count (λ q. tie q r) (block x)) 0) (sym e))) (block y)
        go false e = all_mono _ _ (λ r (a : AllOf (λ q. (lt q r ≡ false) × (tie q r ≡ false)) (block x)). let z = zero_lt r (block x) a in (z.0 ∙ ap (λ b. cond b (count (λ q. lt q r) (block x)) 0) (sym e), z.1 ∙ ap (λ b. cond b (count (λ q. tie q r) (block x)) 0) (sym e))) (block y) (apart x y e)

    all_across : (xs : List X) (rs : List Row) (P : X → Row → Type 0) → ((x : X) → AllOf (P x) rs) → AllOf (λ r. AllOf (λ x. P x r) xs) rs
    all_across [] rs P h = all_each _ (λ r. tt) rs
    all_across (x ∷ xs) rs P h = two rs (h x) (all_across xs rs P h)
      where
        two : (qs : List Row) → AllOf (P x) qs → AllOf (λ r. AllOf (λ y. P y r) xs) qs → AllOf (λ r. AllOf (λ y. P y r) (x ∷ xs)) qs
        two [] a b = tt
        two (q ∷ qs) a b = ((a.0, b.0), two qs a.1 b.1)

    counts_own : (xs : List X) (y : X) → Picked key xs y → AllOf (λ r. (count (λ q. lt q r) (flat_map block xs) ≡ count (λ q. lt q r) (block y)) × (count (λ q. tie q r) (flat_map block xs) ≡ count (λ q. tie q r) (block y))) (block y)
    counts_own xs y p =
        all_mono _ _ (λ r (a : AllOf (λ x. (count (λ q. lt q r) (block x) ≡ cond (nat_eq (key y) (key x)) (count (λ q. lt q r) (block x)) 0) × (count (λ q. tie q r) (block x) ≡ cond (nat_eq (key y) (key x)) (count (λ q. tie q r) (block x)) 0)) xs). (
          total-flat (λ q. bit (lt q r)) block xs ∙ total-all _ _ xs (all_mono _ _ (λ x h. h.0) xs a) ∙ p (λ x. count (λ q. lt q r) (block x)),
          total-flat (λ q. bit (tie q r)) block xs ∙ total-all _ _ xs (all_mono _ _ (λ x h. h.1) xs a) ∙ p (λ x. count (λ q. tie q r) (block x)),
        ))
        (block y)
        (all_across xs (block y) (λ x r. (count (λ q. lt q r) (block x) ≡ cond (nat_eq (key y) (key x)) (count (λ q. lt q r) (block x)) 0) × (count (λ q. tie q r) (block x) ≡ cond (nat_eq (key y) (key x)) (count (λ q. tie q r) (block x)) 0)) (λ x. in_block x y))

    pub block_ranks : (n : ℕ) (xs : List X) → AllOf (Picked key xs) xs → ((x : X) → InRow lt tie (block x)) → map (ranked lt (flat_map block xs)) (flat_map block xs) ≡ flat_map (λ x. stamped 1 (block x)) xs
    block_ranks n xs p s =
        map-flat (ranked lt (flat_map block xs)) block xs
        ∙ flat-all _ _ xs (all_mono _ _ (λ y (q : Picked key xs y).
        map-all (ranked lt (flat_map block xs)) (ranked lt (block y)) (block y) (all_mono _ _ (λ r (h : (count (λ q. lt q r) (flat_map block xs) ≡ count (λ q. lt q r) (block y)) × (count (λ q. tie q r) (flat_map block xs) ≡ count (λ q. tie q r) (block y))). ap (λ n. r ++ num (1 + n) ∷ []) h.0) (block y) (counts_own xs y q))
        ∙ in_row_ranked (block y) (s y)) xs p)

    pub block_free : (xs : List X) → AllOf (Picked key xs) xs → ((x : X) → InRow lt tie (block x)) → AllOf (λ r. count (λ q. tie q r) (flat_map block xs) ≤ 1) (flat_map block xs)
    block_free xs p s =
        all-flat _ block xs (all_mono _ _ (λ y (q : Picked key xs y).
        two (flat_map block xs) (block y) (block y) (counts_own xs y q) (in_row_free (block y) (s y))) xs p)
      where
        two : (all own rs : List Row) → AllOf (λ r. (count (λ q. lt q r) all ≡ count (λ q. lt q r) own) × (count (λ q. tie q r) all ≡ count (λ q. tie q r) own)) rs → AllOf (λ r. count (λ q. tie q r) own ≤ 1) rs → AllOf (λ r. count (λ q. tie q r) all ≤ 1) rs
        two all own [] a b = tt
        two all own (r ∷ rs) a b = ((let h = a.0.1 in let k = b.0 in omega arith), two all own rs a.1 b.1)
