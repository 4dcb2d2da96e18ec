-- Calls of `reverse`, from the rows of their operator: positions from the last one on.
use Rattle.std.proofs.Common.{◌≡◌, ℕ, ◌+◌, ◌<◌, ◌≤◌, Bool, true, false, not, ◌&&◌, ◌||◌, List, [], ◌∷◌, ◌++◌, length, map, reverse, refl, sym, ap, ◌∙◌, arith, Some, None, nat_eq, nat_lt, length-append}
use Rattle.std.proofs.Math.Bool.{and-false}
use Rattle.std.specs.List.{flat_map}
use Rattle.std.proofs.lemmas.Bool.{lt-ltb}
use Rattle.std.proofs.lemmas.List.{reverse-append}
use Rattle.xq_base.specs.declared.fun.Fun.TheVariants as f
use Rattle.doc_table.specs.NodeRules.{Docs}
use Rattle.plan_dag.specs.declared.keys.Key.{Key}
use Rattle.plan_dag.specs.declared.op.OpId.{OpId}
use Rattle.plan_dag.specs.ItemRules.{Cell, cell_eq}
use Rattle.plan_dag.specs.Rows.{ties}
use Rattle.plan_dag.specs.Meaning.{cell, same_part}
use Rattle.core_meaning.specs.Expr.{Site, Apply}
use Rattle.core_meaning.specs.Meaning.{value_in}
use Rattle.lift_laws.specs.Sums.{total, AllOf, Ascends, Same}
use Rattle.lift_laws.specs.Iterations.{Row, Iter, num, item_rows, value_rows, loop_rows}
use Rattle.lift_laws.specs.Bulk.{list_of}
use Rattle.lift_laws.specs.States.{State, at, Makes, Holds, HoldAll, column, three, single}
use Rattle.lift_laws.specs.Shapes.{bare, less_by, pair, pick, four}
use Rattle.lift_laws.specs.Sequences.{down, reversed_rows}
use Rattle.lift_laws.specs.Lifting.{CallLifts, call_answer, call_cost}
use Rattle.lift_laws.proofs.Numbers.{nat_lt_above, nat_eq_turn, num_same, cell_eq_self}
use Rattle.lift_laws.proofs.Multi.{same-map, same-of, same-trans, total-append, total-ext, total-flat}
use Rattle.lift_laws.proofs.Picks.{picks, map-flat, map-append, flat-all, all_each, all_mono, all-append}
use Rattle.lift_laws.proofs.Ranks.{part_self, less_self, goes_before, goes_beside, stamped, numbered_same, Goes, InRow, block_ranks, block_free}
use Rattle.lift_laws.proofs.Marks.{fault_in}
use Rattle.lift_laws.proofs.Staged.{args_few}
use Rattle.lift_laws.proofs.FunctionCases.{quiet_call}

abbrev keys : List Key
keys = down 1 ∷ []

abbrev part : Row → Row → Bool
part q r = same_part bare three (Some (column 0)) q r

abbrev under : Row → Row → Bool
under q r = less_by three keys q r

abbrev lt : Row → Row → Bool
lt q r = goes_before part under q r

abbrev tie : Row → Row → Bool
tie q r = goes_beside part under q r

lt_self : (r : Row) → lt r r ≡ false
lt_self r = rw (part_self three (Some (column 0)) r) (less_self three keys r)

-- the rows of an iteration, from the last one on
abbrev back : ℕ → ℕ → List Cell → List Row
back n k [] = []
back n k (v ∷ vs) = back n (k + 1) vs ++ (num n ∷ num k ∷ v ∷ []) ∷ []

back_same : (w : Row → ℕ) (n k : ℕ) (vs : List Cell) → total w (back n k vs) ≡ total w (item_rows n k vs)
back_same w n k [] = refl
back_same w n k (v ∷ vs) = let a = total-append w (back n (k + 1) vs) ((num n ∷ num k ∷ v ∷ []) ∷ []) in let e = back_same w n (k + 1) vs in omega arith

goes : (n k j : ℕ) (v u : Cell) → k < j → Goes lt tie (num n ∷ num j ∷ u ∷ []) (num n ∷ num k ∷ v ∷ [])
goes n k j v u h =
    let q = num n ∷ num j ∷ u ∷ [] in
    let r = num n ∷ num k ∷ v ∷ [] in
    let p = cell_eq_self (num n) in
    let first : under q r ≡ true = ap (λ z. z || (not (nat_lt j k) && false)) (lt-ltb k j h) in
    let second : under r q ≡ false = ap (λ z. z || (not (nat_lt k j) && false)) (nat_lt_above k j h) ∙ and-false (not (nat_lt k j)) in (
      ap (λ z. z && under q r) p ∙ first,
      ap (λ z. z && under r q) p ∙ second,
      ap (λ z. z && ties bare under q r) p ∙ ap (λ z. not z && not (under r q)) first,
      ap (λ z. z && ties bare under r q) p ∙ ap (λ z. not z && not (under q r)) second ∙ ap not first,
    )

all_before : (n k : ℕ) (v : Cell) (j : ℕ) (us : List Cell) → k < j → AllOf (λ q. Goes lt tie q (num n ∷ num k ∷ v ∷ [])) (back n j us)
all_before n k v j [] h = tt
all_before n k v j (u ∷ us) h = all-append _ (back n (j + 1) us) ((num n ∷ num j ∷ u ∷ []) ∷ []) (all_before n k v (j + 1) us (omega arith)) (goes n k j v u h, tt)

row_behind : (r : Row) (rs : List Row) → InRow lt tie rs → AllOf (λ q. Goes lt tie q r) rs → InRow lt tie (rs ++ r ∷ [])
row_behind r [] s a = (tt, tt)
row_behind r (q ∷ qs) s a = (all-append _ qs (r ∷ []) s.0 (a.0, tt), row_behind r qs s.1 a.1)

in_row : (n k : ℕ) (vs : List Cell) → InRow lt tie (back n k vs)
in_row n k [] = tt
in_row n k (v ∷ vs) = row_behind (num n ∷ num k ∷ v ∷ []) (back n (k + 1) vs) (in_row n (k + 1) vs) (all_before n k v (k + 1) vs (omega arith))

back_part : (n k : ℕ) (vs : List Cell) → AllOf (λ r. cell bare three (column 0) r ≡ num n) (back n k vs)
back_part n k [] = tt
back_part n k (v ∷ vs) = all-append _ (back n (k + 1) vs) ((num n ∷ num k ∷ v ∷ []) ∷ []) (back_part n (k + 1) vs) (refl, tt)

apart : (n m : ℕ) (us vs : List Cell) → nat_eq m n ≡ false → AllOf (λ r. AllOf (λ q. (lt q r ≡ false) × (tie q r ≡ false)) (back n 1 us)) (back m 1 vs)
apart n m us vs h =
    all_mono _ _ (λ r (e : cell bare three (column 0) r ≡ num m).
    all_mono _ _ (λ q (d : cell bare three (column 0) q ≡ num n).
    let p : part q r ≡ false = ap (λ c. cell_eq c (cell bare three (column 0) r)) d ∙ ap (λ c. cell_eq (num n) c) e ∙ num_same n m ∙ nat_eq_turn m n h in
    (ap (λ b. b && under q r) p, ap (λ b. b && ties bare under q r) p))
    (back n 1 us) (back_part n 1 us))
    (back m 1 vs) (back_part m 1 vs)

abbrev out_row : Row → Row
out_row r = pick four (pair 0 0 ∷ pair 1 3 ∷ pair 2 2 ∷ []) r

stamped_append : (k : ℕ) (xs ys : List Row) → stamped k (xs ++ ys) ≡ stamped k xs ++ stamped (k + length xs) ys
stamped_append k [] ys = let e : k ≡ k + 0 = omega arith in ap (λ z. stamped z ys) e
stamped_append k (x ∷ xs) ys =
    let e : k + 1 + length xs ≡ k + length (x ∷ xs) = omega arith in
    ap (λ l. (x ++ num k ∷ []) ∷ l) (stamped_append (k + 1) xs ys ∙ ap (λ z. stamped (k + 1) xs ++ stamped z ys) e)

items_append : (n k : ℕ) (us vs : List Cell) → item_rows n k (us ++ vs) ≡ item_rows n k us ++ item_rows n (k + length us) vs
items_append n k [] vs = let e : k ≡ k + 0 = omega arith in ap (λ z. item_rows n z vs) e
items_append n k (u ∷ us) vs =
    let e : k + 1 + length us ≡ k + length (u ∷ us) = omega arith in
    ap (λ l. (num n ∷ num k ∷ u ∷ []) ∷ l) (items_append n (k + 1) us vs ∙ ap (λ z. item_rows n (k + 1) us ++ item_rows n z vs) e)

back_length : (n k : ℕ) (vs : List Cell) → length (back n k vs) ≡ length (reverse vs)
back_length n k [] = refl
back_length n k (v ∷ vs) =
    let a = length-append (back n (k + 1) vs) ((num n ∷ num k ∷ v ∷ []) ∷ []) in
    let b = length-append (reverse vs) (v ∷ []) in
    let e = back_length n (k + 1) vs in
    let d = ap length (reverse-append (v ∷ []) vs) in
    omega arith

out_back : (n k : ℕ) (vs : List Cell) → map out_row (stamped 1 (back n k vs)) ≡ item_rows n 1 (reverse vs)
out_back n k [] = refl
out_back n k (v ∷ vs) =
    ap (map out_row) (stamped_append 1 (back n (k + 1) vs) ((num n ∷ num k ∷ v ∷ []) ∷ []))
    ∙ map-append out_row (stamped 1 (back n (k + 1) vs)) (stamped (1 + length (back n (k + 1) vs)) ((num n ∷ num k ∷ v ∷ []) ∷ []))
    ∙ ap (λ l. l ++ (num n ∷ num (1 + length (back n (k + 1) vs)) ∷ v ∷ []) ∷ []) (out_back n (k + 1) vs)
    ∙ ap (λ z. item_rows n 1 (reverse vs) ++ (num n ∷ num (1 + z) ∷ v ∷ []) ∷ []) (back_length n (k + 1) vs)
    ∙ sym (ap (item_rows n 1) (reverse-append (v ∷ []) vs) ∙ items_append n 1 (reverse vs) (v ∷ []))

reverse_stands : (h : Iter → List Cell) (its : List Iter) (a : List Row) → Ascends (λ i. i.number) 0 its → Same a (value_rows h its) → Same (reversed_rows a) (value_rows (λ i. reverse (h i)) its)
reverse_stands h its a asc sa =
    let key = λ (i : Iter). i.number in
    let block = λ (i : Iter). back i.number 1 (h i) in
    let s : Same a (flat_map block its) = record { at = λ w. sa.at w ∙ total-flat w (λ i. item_rows i.number 1 (h i)) its ∙ total-ext _ _ its (λ i. sym (back_same w i.number 1 (h i))) ∙ sym (total-flat w block its) } in
    let p = picks (λ i. i.number) 0 its asc in
    let parted = λ (x y : Iter) (z : nat_eq y.number x.number ≡ false). apart x.number y.number (h x) (h y) z in
    let rows = λ (x : Iter). in_row x.number 1 (h x) in
    let free = block_free lt tie lt_self key block parted its p rows in
    let ranks = block_ranks lt tie lt_self key block parted 0 its p rows in
    let n = numbered_same part under (part_self three (Some (column 0))) (less_self three keys) a (flat_map block its) s free in
    same-trans (same-map out_row (same-trans n (same-of ranks)))
    (same-of (map-flat out_row (λ x. stamped 1 (block x)) its ∙ flat-all _ _ its (all_each _ (λ x. out_back x.number 1 (h x)) its)))

module _ (docs : Docs) {s s' : State} (site : Site) (looped a t : OpId) (m : Makes s s' t three (reversed_rows (at s a).rows) (length (at s a).rows)) where
  few : (N : ℕ) (its : List Iter) (gs : List (Iter → List Cell)) → Ascends (λ i. i.number) 0 its → Holds s looped single (loop_rows its) → HoldAll s (a ∷ []) gs its → call_cost docs site (Apply f.Reverse) gs its ≤ N → length (at s a).rows ≤ N
  few N its gs asc hl hp enough = let q = args_few docs s site (Apply f.Reverse) looped (a ∷ []) N its gs hl hp enough in omega arith

  calm : (gs : List (Iter → List Cell)) (its : List Iter) → HoldAll s (a ∷ []) gs its → AllOf (λ i. fault_in (call_answer docs site (Apply f.Reverse) gs i) ≡ None) its
  calm [] its hp = absurd hp
  calm (g ∷ []) its hp = all_each _ (λ i. refl) its
  calm (g ∷ g' ∷ gs) its hp = absurd hp.1

  stand : (its : List Iter) (gs : List (Iter → List Cell)) → Ascends (λ i. i.number) 0 its → Holds s looped single (loop_rows its) → HoldAll s (a ∷ []) gs its → Same (reversed_rows (at s a).rows) (value_rows (λ i. list_of (value_in (call_answer docs site (Apply f.Reverse) gs i))) its)
  stand its [] asc hl hp = absurd hp
  stand its (g ∷ []) asc hl hp = reverse_stands g its _ asc hp.0.rows_are
  stand its (g ∷ g' ∷ gs) asc hl hp = absurd hp.1

  pub reverse_call : CallLifts docs s s' site (Apply f.Reverse) looped (a ∷ []) t
  reverse_call = quiet_call docs site (Apply f.Reverse) looped (a ∷ []) t _ _ m refl few calm stand
