-- The tuples of each iteration by one value for each tuple: their rows, numbered again by the value and then by the number so far.
use Rattle.std.proofs.Common.{◌≡◌, ◌⊎◌, ℕ, ◌+◌, ◌<◌, Bool, true, false, cond, not, ◌&&◌, ◌||◌, List, [], ◌∷◌, ◌++◌, map, refl, sym, ap, ◌∙◌, inl, inr, ⊎_elim, arith, Some, nat_eq, nat_lt, true≢false}
use Rattle.std.specs.List.{flat_map}
use Rattle.std.proofs.lemmas.Bool.{lt-ltb}
use Rattle.doc_table.specs.Orders.{put, in_order}
use Rattle.plan_dag.specs.declared.keys.Key.{Key}
use Rattle.plan_dag.specs.ItemRules.{Cell}
use Rattle.plan_dag.specs.Rows.{ties, key_less}
use Rattle.plan_dag.specs.Meaning.{cell, same_part}
use Rattle.lift_laws.specs.Sums.{total, AllOf, Ascends, Same}
use Rattle.lift_laws.specs.Iterations.{Row, Iter, num, item_rows, value_rows}
use Rattle.lift_laws.specs.States.{column, three}
use Rattle.lift_laws.specs.Shapes.{bare, less_by, up, pair, columns, pick, project, join_by}
use Rattle.lift_laws.specs.Pairs.{beside_cols}
use Rattle.lift_laws.specs.Tuples.{numbers}
use Rattle.lift_laws.specs.Sorted.{by, by_value_rows}
use Rattle.lift_laws.proofs.Numbers.{nat_lt_above, nat_eq_turn, num_same, cell_eq_self}
use Rattle.lift_laws.proofs.Multi.{same-map, same-of, same-trans, same-sym, same-each}
use Rattle.lift_laws.proofs.Picks.{Picked, picks, map-map, map-flat, flat-all, all_each, all_mono, all-flat, all-map, join_picks}
use Rattle.lift_laws.proofs.Ranks.{part_self, less_self, goes_before, goes_beside, stamped, numbered_same, Goes, InRow, block_ranks, block_free}
use Rattle.lift_laws.proofs.Loops.{same-join}
use Rattle.lift_laws.proofs.Values.{all_two}
use Rattle.lift_laws.proofs.Once.{put_total, put_all}
use Rattle.lift_laws.proofs.WeakOrders.{Weak, order_hold}

-- in another order there are the same elements
pub in_order_same : {A : Type 0} (lt : A → A → Bool) (xs : List A) → Same (in_order lt xs) xs
in_order_same lt xs = record { at = λ w. go w xs }
  where
    go : (w : _ → ℕ) (ys : List _) → total w (in_order lt ys) ≡ total w ys
    go w [] = refl
    go w (y ∷ ys) = put_total lt lt w y (in_order lt ys) ∙ ap (λ n. w y + n) (go w ys)

-- a tuple with its number so far
pub record Placed : Type 0 where
  pub place : ℕ
  pub tuple : Iter

abbrev pub placed : ℕ → Iter → Placed
placed k l = record { place = k; tuple = l }

abbrev pub placed_from : ℕ → List Iter → List Placed
placed_from k [] = []
placed_from k (l ∷ ls) = placed k l ∷ placed_from (k + 1) ls

placed_above : (n k : ℕ) (ls : List Iter) → n < k → AllOf (λ y. n < y.place) (placed_from k ls)
placed_above n k [] h = tt
placed_above n k (l ∷ ls) h = (h, placed_above n (k + 1) ls (omega arith))

-- a tuple with its number so far, in its iteration
pub record Spot : Type 0 where
  pub outer : ℕ
  pub at : Placed

abbrev pub spot : ℕ → Placed → Spot
spot n x = record { outer = n; at = x }

abbrev pub spots_in : (Iter → List Iter) → List Iter → List Spot
spots_in G its = flat_map (λ (i : Iter). map (spot i.number) (placed_from 1 (G i))) its

abbrev pub spot_row : Spot → Row
spot_row s = num s.outer ∷ num s.at.place ∷ num s.at.tuple.number ∷ []

spot_items : (n k : ℕ) (ls : List Iter) → item_rows n k (numbers ls) ≡ map spot_row (map (spot n) (placed_from k ls))
spot_items n k [] = refl
spot_items n k (l ∷ ls) = ap (λ q. (num n ∷ num k ∷ num l.number ∷ []) ∷ q) (spot_items n (k + 1) ls)

pub spots_are : (G : Iter → List Iter) (its : List Iter) → value_rows (λ i. numbers (G i)) its ≡ map spot_row (spots_in G its)
spots_are G its = flat-all _ _ its (all_each _ (λ i. spot_items i.number 1 (G i)) its) ∙ sym (map-flat spot_row (λ (i : Iter). map (spot i.number) (placed_from 1 (G i))) its)

placed_hold : (P : Iter → Type 0) (k : ℕ) (ls : List Iter) → AllOf P ls → AllOf (λ x. P x.tuple) (placed_from k ls)
placed_hold P k [] a = tt
placed_hold P k (l ∷ ls) a = (a.0, placed_hold P (k + 1) ls a.1)

pub spots_hold : (P : Iter → Type 0) (G : Iter → List Iter) (its : List Iter) → AllOf (λ i. AllOf P (G i)) its → AllOf (λ s. P s.at.tuple) (spots_in G its)
spots_hold P G its a = all-flat _ (λ (i : Iter). map (spot i.number) (placed_from 1 (G i))) its (all_mono _ _ (λ i (h : AllOf P (G i)). all-map (λ s. P s.at.tuple) (spot i.number) (placed_from 1 (G i)) (placed_hold P 1 (G i) h)) its a)

-- the tuples beside their values
abbrev join_by_value : List Row → List Row → List Row
join_by_value r x = join_by three (columns (4 ∷ 5 ∷ [])) (column 2) (column 4) r (project three (pair 4 0 ∷ pair 5 2 ∷ []) x)

module _ (descending : Bool) (K : Iter → Cell) (weak : Weak (λ l m. key_less bare descending (K l) (K m))) where
  abbrev before : Iter → Iter → Bool
  before l m = key_less bare descending (K l) (K m)

  abbrev by_key : Placed → Placed → Bool
  by_key x y = before x.tuple y.tuple

  -- before it by the value, or not after it and before it so far
  abbrev Follows : Placed → Placed → Type 0
  Follows x y = (by_key x y ≡ true) ⊎ ((by_key x y ≡ false) × (by_key y x ≡ false) × (x.place < y.place))

  abbrev InTurn : List Placed → Type 0
  InTurn [] = Unit {0}
  InTurn (x ∷ xs) = AllOf (Follows x) xs × InTurn xs

  not_back : (y z : Placed) → Follows y z → by_key z y ≡ false
  not_back y z h = ⊎_elim (λ e. weak.turn y.tuple z.tuple e) (λ e. e.1) h

  put_turn : (x : Placed) (ys : List Placed) → AllOf (λ y. x.place < y.place) ys → InTurn ys → InTurn (put by_key x ys)
  put_turn x [] l s = (tt, tt)
  put_turn x (y ∷ ys) l s = go (by_key y x) refl (put_turn x ys l.1 s.1)
    where
      near : (z : Placed) → x.place < z.place → by_key z x ≡ false → Follows x z
      near z k p = one (by_key x z) refl
        where
          one : (b : Bool) → by_key x z ≡ b → Follows x z
          one true q = inl q
          one false q = inr (q, p, k)

      far : (z : Placed) → by_key y x ≡ false → x.place < z.place → Follows y z → Follows x z
      far z p k h = near z k (one (by_key z x) refl)
        where
          one : (b : Bool) → by_key z x ≡ b → by_key z x ≡ false
          one true q = absurd (true≢false (sym (weak.cut z.tuple y.tuple x.tuple q (not_back y z h)) ∙ p))
          one false q = q

      go : (b : Bool) → by_key y x ≡ b → InTurn (put by_key x ys) → InTurn (cond b (y ∷ put by_key x ys) (x ∷ y ∷ ys))
      go true p r = (put_all by_key by_key (Follows y) x ys (inl p) s.0, r)
      go false p r = ((near y l.0 p, all_two _ _ _ (λ z (k : x.place < z.place) (h : Follows y z). far z p k h) ys l.1 s.0), s)

  placed_turn : (k : ℕ) (ls : List Iter) → InTurn (in_order by_key (placed_from k ls))
  placed_turn k [] = tt
  placed_turn k (l ∷ ls) = put_turn (placed k l) (in_order by_key (placed_from (k + 1) ls)) (order_hold (λ y. k < y.place) by_key (placed_from (k + 1) ls) (placed_above k (k + 1) ls (omega arith))) (placed_turn (k + 1) ls)

  -- the tuples alone
  put_tuples : (x : Placed) (ys : List Placed) → map (λ y. y.tuple) (put by_key x ys) ≡ put before x.tuple (map (λ y. y.tuple) ys)
  put_tuples x [] = refl
  put_tuples x (y ∷ ys) =
      let r = put_tuples x ys in
      elim (by_key y x) as (λ b. map (λ (z : Placed). z.tuple) (cond b (y ∷ put by_key x ys) (x ∷ y ∷ ys)) ≡ cond b (y.tuple ∷ put before x.tuple (map (λ (z : Placed). z.tuple) ys)) (x.tuple ∷ y.tuple ∷ map (λ (z : Placed). z.tuple) ys)) [
        | true ↦ ap (λ l. y.tuple ∷ l) r
        | false ↦ refl
      ]

  order_tuples : (k : ℕ) (ls : List Iter) → map (λ y. y.tuple) (in_order by_key (placed_from k ls)) ≡ in_order before ls
  order_tuples k [] = refl
  order_tuples k (l ∷ ls) = put_tuples (placed k l) (in_order by_key (placed_from (k + 1) ls)) ∙ ap (put before l) (order_tuples (k + 1) ls)

  -- the order of the rows
  abbrev keys : List Key
  keys = by descending 5 ∷ up 1 ∷ []

  abbrev part : Row → Row → Bool
  part q r = same_part bare beside_cols (Some (column 0)) q r

  abbrev under : Row → Row → Bool
  under q r = less_by beside_cols keys q r

  abbrev lt : Row → Row → Bool
  lt q r = goes_before part under q r

  abbrev tie : Row → Row → Bool
  tie q r = goes_beside part under q r

  lt_self : (r : Row) → lt r r ≡ false
  lt_self r = rw (part_self beside_cols (Some (column 0)) r) (less_self beside_cols keys r)

  abbrev row5 : ℕ → Placed → Row
  row5 n x = num n ∷ num x.place ∷ num x.tuple.number ∷ num x.tuple.number ∷ K x.tuple ∷ []

  unders : (n : ℕ) (x y : Placed) → Follows x y → (under (row5 n x) (row5 n y) ≡ true) × (under (row5 n y) (row5 n x) ≡ false)
  unders n x y h =
      ⊎_elim
      (λ e. (
        ap (λ b. b || (not (by_key y x) && (nat_lt x.place y.place || (not (nat_lt y.place x.place) && false)))) e,
        ap (λ b. b || (not (by_key x y) && (nat_lt y.place x.place || (not (nat_lt x.place y.place) && false)))) (weak.turn x.tuple y.tuple e) ∙ ap (λ b. not b && (nat_lt y.place x.place || (not (nat_lt x.place y.place) && false))) e,
      ))
      (λ e.
      let l : nat_lt x.place y.place ≡ true = lt-ltb x.place y.place e.2 in
      let m = nat_lt_above x.place y.place e.2 in (
        ap (λ b. b || (not (by_key y x) && (nat_lt x.place y.place || (not (nat_lt y.place x.place) && false)))) e.0 ∙ ap (λ b. not b && (nat_lt x.place y.place || (not (nat_lt y.place x.place) && false))) e.1 ∙ ap (λ b. b || (not (nat_lt y.place x.place) && false)) l,
        ap (λ b. b || (not (by_key x y) && (nat_lt y.place x.place || (not (nat_lt x.place y.place) && false)))) e.1 ∙ ap (λ b. not b && (nat_lt y.place x.place || (not (nat_lt x.place y.place) && false))) e.0 ∙ ap (λ b. b || (not (nat_lt x.place y.place) && false)) m ∙ ap (λ b. not b && false) l,
      )) h

  goes : (n : ℕ) (x y : Placed) → Follows x y → Goes lt tie (row5 n x) (row5 n y)
  goes n x y h =
      let p = cell_eq_self (num n) in
      let u = unders n x y h in (
        ap (λ z. z && under (row5 n x) (row5 n y)) p ∙ u.0,
        ap (λ z. z && under (row5 n y) (row5 n x)) p ∙ u.1,
        ap (λ z. z && ties bare under (row5 n x) (row5 n y)) p ∙ ap (λ z. not z && not (under (row5 n y) (row5 n x))) u.0,
        ap (λ z. z && ties bare under (row5 n y) (row5 n x)) p ∙ ap (λ z. not z && not (under (row5 n x) (row5 n y))) u.1 ∙ ap not u.0,
      )

  in_row : (n : ℕ) (xs : List Placed) → InTurn xs → InRow lt tie (map (row5 n) xs)
  in_row n [] s = tt
  in_row n (x ∷ xs) s = (all-map (Goes lt tie (row5 n x)) (row5 n) xs (all_mono _ _ (λ y (h : Follows x y). goes n x y h) xs s.0), in_row n xs s.1)

  apart : (n m : ℕ) (us vs : List Placed) → nat_eq m n ≡ false → AllOf (λ r. AllOf (λ q. (lt q r ≡ false) × (tie q r ≡ false)) (map (row5 n) us)) (map (row5 m) vs)
  apart n m us vs h =
      all-map _ (row5 m) vs (all_each _ (λ v. all-map (λ q. (lt q (row5 m v) ≡ false) × (tie q (row5 m v) ≡ false)) (row5 n) us (all_each _ (λ u.
      let p : part (row5 n u) (row5 m v) ≡ false = num_same n m ∙ nat_eq_turn m n h in
      (ap (λ b. b && under (row5 n u) (row5 m v)) p, ap (λ b. b && ties bare under (row5 n u) (row5 m v)) p)) us)) vs)

  abbrev out_row : Row → Row
  out_row r = pick (columns (0 ∷ 1 ∷ 2 ∷ 4 ∷ 5 ∷ 3 ∷ [])) (pair 0 0 ∷ pair 1 3 ∷ pair 2 2 ∷ []) r

  out : (n k : ℕ) (xs : List Placed) → map out_row (stamped k (map (row5 n) xs)) ≡ item_rows n k (numbers (map (λ (y : Placed). y.tuple) xs))
  out n k [] = refl
  out n k (x ∷ xs) = ap (λ l. (num n ∷ num k ∷ num x.tuple.number ∷ []) ∷ l) (out n (k + 1) xs)

  module _ (G : Iter → List Iter) (its tuples : List Iter) (asc : Ascends (λ i. i.number) 0 its) (picked : AllOf (λ i. AllOf (Picked (λ (l : Iter). l.number) tuples) (G i)) its) where
    -- all tuples beside their values
    beside_stand : (r x : List Row) → Same r (value_rows (λ i. numbers (G i)) its) → Same x (value_rows (λ l. K l ∷ []) tuples)
        → Same (join_by_value r x) (flat_map (λ (i : Iter). map (row5 i.number) (placed_from 1 (G i))) its)
    beside_stand r x sr sx =
        let cut = pick three (pair 4 0 ∷ pair 5 2 ∷ []) in
        let side = λ (l : Iter). (num l.number ∷ K l ∷ []) ∷ [] in
        let right : Same (project three (pair 4 0 ∷ pair 5 2 ∷ []) x) (flat_map side tuples) = same-trans (same-map cut sx) (same-of (map-flat cut (λ l. item_rows l.number 1 (K l ∷ [])) tuples)) in
        let left = same-trans sr (same-of (spots_are G its)) in
        let joins = join_picks (λ (l : Iter). l.number) (λ (s : Spot). s.at.tuple) spot_row side (cell bare three (column 2)) (cell bare (columns (4 ∷ 5 ∷ [])) (column 4)) (λ s. refl) (λ l. (refl, tt)) (spots_in G its) tuples (spots_hold (Picked (λ (l : Iter). l.number) tuples) G its picked) in
        same-trans (same-join three (columns (4 ∷ 5 ∷ [])) (column 2) (column 4) left right)
        (same-trans joins
        (same-of (flat_one (spots_in G its)
        ∙ map-flat (λ (s : Spot). row5 s.outer s.at) (λ (i : Iter). map (spot i.number) (placed_from 1 (G i))) its
        ∙ flat-all _ _ its (all_each _ (λ i. map-map (λ (s : Spot). row5 s.outer s.at) (spot i.number) (placed_from 1 (G i))) its))))
      where
        flat_one : (ss : List Spot) → flat_map (λ s. map (λ r. spot_row s ++ r) ((num s.at.tuple.number ∷ K s.at.tuple ∷ []) ∷ [])) ss ≡ map (λ (s : Spot). row5 s.outer s.at) ss
        flat_one [] = refl
        flat_one (s ∷ ss) = ap (λ l. row5 s.outer s.at ∷ l) (flat_one ss)

    -- the tuples of each iteration, stably in order by the value
    pub by_value_stands : (r x : List Row) → Same r (value_rows (λ i. numbers (G i)) its) → Same x (value_rows (λ l. K l ∷ []) tuples) → Same (by_value_rows descending x r) (value_rows (λ i. numbers (in_order before (G i))) its)
    by_value_stands r x sr sx =
        let sorted = λ (i : Iter). in_order by_key (placed_from 1 (G i)) in
        let block = λ (i : Iter). map (row5 i.number) (sorted i) in
        let canon = same-trans (beside_stand r x sr sx) (same-each (λ (i : Iter). map (row5 i.number) (placed_from 1 (G i))) block its (λ i. same-map (row5 i.number) (same-sym (in_order_same by_key (placed_from 1 (G i)))))) in
        let parted = λ (x y : Iter) (h : nat_eq y.number x.number ≡ false). apart x.number y.number (sorted x) (sorted y) h in
        let p = picks (λ (i : Iter). i.number) 0 its asc in
        let rows = λ (i : Iter). in_row i.number (sorted i) (placed_turn 1 (G i)) in
        let free = block_free lt tie lt_self (λ (i : Iter). i.number) block parted its p rows in
        let ranks = block_ranks lt tie lt_self (λ (i : Iter). i.number) block parted 0 its p rows in
        let n = numbered_same part under (part_self beside_cols (Some (column 0))) (less_self beside_cols keys) (join_by_value r x) (flat_map block its) canon free in
        same-trans (same-map out_row (same-trans n (same-of ranks)))
        (same-of (map-flat out_row (λ i. stamped 1 (block i)) its ∙ flat-all _ _ its (all_each _ (λ i. out i.number 1 (sorted i) ∙ ap (λ ls. item_rows i.number 1 (numbers ls)) (order_tuples 1 (G i))) its)))
