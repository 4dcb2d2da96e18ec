-- Rows in the order of their iterations and positions: a list that no weight tells from the values' rows.
use Rattle.std.proofs.Common.{◌≡◌, ℕ, ◌+◌, ◌≤◌, Bool, true, false, cond, not, ◌||◌, List, [], ◌∷◌, ◌++◌, length, map, refl, sym, ap, ◌∙◌, arith, add-zero, zero-add, nat_eq, ℤ, pos, ◌-ℤ◌, ◌+ℤ◌}
use Rattle.std.specs.List.{filter, flat_map}
use Rattle.std.proofs.lemmas.Bool.{ne_eqb}
use Rattle.std.proofs.lemmas.Int.{ints}
use Rattle.plan_dag.specs.Orders.{firsts}
use Rattle.doc_table.specs.Items.{IntItem}
use Rattle.plan_dag.specs.ItemRules.{Cell, cell_eq}
use Rattle.plan_dag.specs.Rows.{ints_from, not_negative, count_rows, rows_with, range_rows}
use Rattle.plan_dag.specs.Meaning.{cell}
use Rattle.lift_laws.specs.Sums.{total, bit, AllOf, Ascends, Same}
use Rattle.lift_laws.specs.Iterations.{Row, Iter, num, item_rows, value_rows, Turn, turns, turns_of, all_turns, given}
use Rattle.lift_laws.specs.States.{column}
use Rattle.lift_laws.specs.Shapes.{bare, pair, columns, pick, with_cell, four, turn_map}
use Rattle.lift_laws.specs.Aggregates.{places_rows, sorted_rows}
use Rattle.lift_laws.proofs.Numbers.{num_same, cell_eq_self, num_is}
use Rattle.lift_laws.proofs.Multi.{same-of, same-trans, same-keep, same-length, total-flat, total-ext, total-zero}
use Rattle.lift_laws.proofs.Picks.{all_each, all_mono, flat-all, flat-map, map-flat}
use Rattle.lift_laws.proofs.Sizes.{size_cells, size_turns, map_length}
use Rattle.lift_laws.proofs.Keeping.{filter_append, append_none}
use Rattle.lift_laws.proofs.Loops.{map_row_of, turn_map_stands, given_ascends}

-- no weight of a whole list tells them apart
pub record Like {A : Type 0} (xs ys : List A) : Type 0 where
  pub at : (w : List A → ℕ) → w xs ≡ w ys

like_one : {A : Type 0} (xs : List A) (y : A) → Same xs (y ∷ []) → Like xs (y ∷ [])
like_one [] y s = let q = s.at (λ x. 1) in absurd (omega arith)
like_one (x ∷ []) y s = record { at = λ w. sym (add-zero _) ∙ s.at (λ z. w (z ∷ [])) ∙ add-zero _ }
like_one (x ∷ z ∷ xs) y s = let q = s.at (λ x. 1) in absurd (omega arith)

like_map : {A B : Type 0} (f : List A → List B) (xs ys : List A) → Like xs ys → Like (f xs) (f ys)
like_map f xs ys h = record { at = λ w. h.at (λ zs. w (f zs)) }

like_flat : {A B : Type 0} (f g : A → List B) (xs : List A) → AllOf (λ x. Like (f x) (g x)) xs → Like (flat_map f xs) (flat_map g xs)
like_flat f g [] h = record { at = λ w. refl }
like_flat f g (x ∷ xs) h = record { at = λ w. h.0.at (λ z. w (z ++ flat_map f xs)) ∙ (like_flat f g xs h.1).at (λ z. w (g x ++ z)) }

-- the rows of one block, among those of all
module _ {X : Type 0} (key : X → ℕ) (K : Row → Cell) (block : X → List Row) (keyed : (x : X) → AllOf (λ r. K r ≡ num (key x)) (block x)) where
  abbrev mine : ℕ → Row → Bool
  mine n r = cell_eq (num n) (K r)

  all_mine : (n : ℕ) (rs : List Row) → AllOf (λ r. K r ≡ num n) rs → filter (mine n) rs ≡ rs
  all_mine n [] h = refl
  all_mine n (r ∷ rs) h = ap (λ b. cond b (r ∷ filter (mine n) rs) (filter (mine n) rs)) (ap (cell_eq (num n)) h.0 ∙ cell_eq_self (num n)) ∙ ap (λ l. r ∷ l) (all_mine n rs h.1)

  none_mine : (n m : ℕ) (rs : List Row) → nat_eq n m ≡ false → AllOf (λ r. K r ≡ num m) rs → filter (mine n) rs ≡ []
  none_mine n m [] e h = refl
  none_mine n m (r ∷ rs) e h = ap (λ b. cond b (r ∷ filter (mine n) rs) (filter (mine n) rs)) (ap (cell_eq (num n)) h.0 ∙ num_same n m ∙ e) ∙ none_mine n m rs e h.1

  none_above : (n k : ℕ) (xs : List X) → n ≤ k → Ascends key k xs → filter (mine n) (flat_map block xs) ≡ []
  none_above n k [] l a = refl
  none_above n k (x ∷ xs) l a =
      let q = a.0 in
      filter_append (mine n) (block x) (flat_map block xs)
      ∙ ap (λ z. z ++ filter (mine n) (flat_map block xs)) (none_mine n (key x) (block x) (ne_eqb n (key x) (λ e. omega arith)) (keyed x))
      ∙ none_above n (key x) xs (omega arith) a.1

  pub own_blocks : (k : ℕ) (xs : List X) → Ascends key k xs → AllOf (λ x. filter (λ r. cell_eq (num (key x)) (K r)) (flat_map block xs) ≡ block x) xs
  own_blocks k [] a = tt
  own_blocks k (x ∷ xs) a = (
    filter_append (mine (key x)) (block x) (flat_map block xs) ∙ ap (λ z. z ++ filter (mine (key x)) (flat_map block xs)) (all_mine (key x) (block x) (keyed x))
        ∙ ap (λ z. block x ++ z) (none_above (key x) (key x) xs (omega arith) a.1) ∙ append_none (block x),
    behind (key x) xs a.1 (own_blocks (key x) xs a.1) (omega arith),
  )
    where
      behind : (n : ℕ) (ys : List X) → Ascends key n ys → AllOf (λ y. filter (λ r. cell_eq (num (key y)) (K r)) (flat_map block xs) ≡ block y) ys → key x ≤ n → AllOf (λ y. filter (λ r. cell_eq (num (key y)) (K r)) (block x ++ flat_map block xs) ≡ block y) ys
      behind n [] b h l = tt
      behind n (y ∷ ys) b h l = (
        (let q = b.0 in filter_append (mine (key y)) (block x) (flat_map block xs) ∙ ap (λ z. z ++ filter (mine (key y)) (flat_map block xs)) (none_mine (key y) (key x) (block x) (ne_eqb (key y) (key x) (λ e. omega arith)) (keyed x)) ∙ h.0),
        behind (key y) ys b.1 h.1 (let q = b.0 in omega arith),
      )

-- the numbers of all rows
abbrev ones : Row → Cell
ones r = cell bare four (column 3) r

all_ones : (rs : List Row) → AllOf (λ r. ones r ≡ num 1) rs → (rows_with bare ones (num 1) rs ≡ rs)
all_ones [] h = refl
all_ones (r ∷ rs) h = ap (λ v. cond (cell_eq (num 1) v) (r ∷ rows_with bare ones (num 1) rs) (rows_with bare ones (num 1) rs)) h.0 ∙ ap (λ l. r ∷ l) (all_ones rs h.1)

seen_ones : (x : Row) (rs : List Row) → ones x ≡ num 1 → AllOf (λ r. ones r ≡ num 1) rs → firsts (λ q r. cell_eq (ones q) (ones r)) (x ∷ []) rs ≡ []
seen_ones x [] e h = refl
seen_ones x (r ∷ rs) e h =
    ap (λ v. cond (cell_eq v (ones x) || false) (firsts (λ q r. cell_eq (ones q) (ones r)) (x ∷ []) rs) (r ∷ firsts (λ q r. cell_eq (ones q) (ones r)) (r ∷ x ∷ []) rs)) h.0
    ∙ ap (λ v. cond (cell_eq (num 1) v || false) (firsts (λ q r. cell_eq (ones q) (ones r)) (x ∷ []) rs) (r ∷ firsts (λ q r. cell_eq (ones q) (ones r)) (r ∷ x ∷ []) rs)) e
    ∙ seen_ones x rs e h.1

abbrev counted_ones : List Row → List Row
counted_ones [] = []
counted_ones (r ∷ rs) = (num 1 ∷ num (length (r ∷ rs)) ∷ []) ∷ []

ones_count : (rs : List Row) → AllOf (λ r. ones r ≡ num 1) rs → count_rows bare ones rs ≡ counted_ones rs
ones_count [] h = refl
ones_count (r ∷ rs) h =
    ap (λ qs. map (λ q. ones q ∷ num (length (rows_with bare ones (ones q) (r ∷ rs))) ∷ []) (r ∷ qs)) (seen_ones r rs h.0 h.1)
    ∙ ap (λ v. (v ∷ num (length (rows_with bare ones v (r ∷ rs))) ∷ []) ∷ []) h.0
    ∙ ap (λ qs. (num 1 ∷ num (length qs) ∷ []) ∷ []) (all_ones (r ∷ rs) h)

up_again : (n : ℕ) → pos n -ℤ pos 1 +ℤ pos 1 ≡ pos n
up_again n = omega (arith, ints)

-- the numbers of rows that are counted
abbrev spread : List Row → List Row
spread qs = map (λ r. pick (columns (3 ∷ 5 ∷ 6 ∷ [])) (pair 6 6 ∷ []) r) (range_rows bare (cell bare (columns (3 ∷ 5 ∷ [])) (column 3)) (cell bare (columns (3 ∷ 5 ∷ [])) (column 5)) qs)

abbrev range_of : List Row → List Row
range_of rs = spread (count_rows bare ones rs)

given_numbers : (k : ℕ) (ts : List Turn) → map (λ z. IntItem z ∷ []) (ints_from (pos k) (length ts)) ≡ map (λ (t : Turn). num t.number ∷ []) (given k ts)
given_numbers k [] = refl
given_numbers k (t ∷ ts) = ap (λ l. (num k ∷ []) ∷ l) (given_numbers (k + 1) ts)

module _ (h : Iter → List Cell) (its : List Iter) (a : List Row) (asc : Ascends (λ i. i.number) 0 its) (sa : Same a (value_rows h its)) where
  abbrev all : List Turn
  all = turns h its

  same_map : (vs : List Cell) → map (λ v. v) vs ≡ vs
  same_map [] = refl
  same_map (v ∷ vs) = ap (λ l. v ∷ l) (same_map vs)

  numbered : Same (turn_map a) (map (map_row_of (λ v. v)) (turns h its))
  numbered = turn_map_stands (λ v. v) h its a asc (same-trans sa (same-of (flat-all _ _ its (all_each _ (λ i. ap (item_rows i.number 1) (sym (same_map (h i)))) its))))

  ones_there : AllOf (λ r. ones r ≡ num 1) (with_cell (num 1) a)
  ones_there = back a (sa.at (λ r. bit (not (cell_eq (num 1) (ones (r ++ num 1 ∷ []))))) ∙ total-flat (λ r. bit (not (cell_eq (num 1) (ones (r ++ num 1 ∷ []))))) (λ i. item_rows i.number 1 (h i)) its ∙ total-ext _ _ its (λ i. items i.number 1 (h i)) ∙ total-zero its)
    where
      items : (n k : ℕ) (vs : List Cell) → total (λ r. bit (not (cell_eq (num 1) (ones (r ++ num 1 ∷ []))))) (item_rows n k vs) ≡ 0
      items n k [] = refl
      items n k (v ∷ vs) = zero-add _ ∙ items n (k + 1) vs

      back : (rs : List Row) → total (λ r. bit (not (cell_eq (num 1) (ones (r ++ num 1 ∷ []))))) rs ≡ 0 → AllOf (λ r. ones r ≡ num 1) (map (λ r. r ++ num 1 ∷ []) rs)
      back [] e = tt
      back (r ∷ rs) e = go (cell_eq (num 1) (ones (r ++ num 1 ∷ []))) refl e (λ q. back rs q)
        where
          go : (b : Bool) → cell_eq (num 1) (ones (r ++ num 1 ∷ [])) ≡ b → bit (not b) + total (λ r. bit (not (cell_eq (num 1) (ones (r ++ num 1 ∷ []))))) rs ≡ 0
              → (total (λ r. bit (not (cell_eq (num 1) (ones (r ++ num 1 ∷ []))))) rs ≡ 0 → AllOf (λ r. ones r ≡ num 1) (map (λ r. r ++ num 1 ∷ []) rs)) → (ones (r ++ num 1 ∷ []) ≡ num 1) × AllOf (λ r. ones r ≡ num 1) (map (λ r. r ++ num 1 ∷ []) rs)
          go true p q k = (num_is 1 (ones (r ++ num 1 ∷ [])) p, k (omega arith))
          go false p q k = absurd (omega arith)

  places_are : places_rows a ≡ map (λ (t : Turn). num t.number ∷ []) (turns h its)
  places_are = step (with_cell (num 1) a) ones_there ∙ ap (λ n. map (λ z. IntItem z ∷ []) (ints_from (pos 1) n)) (map_length (λ r. r ++ num 1 ∷ []) a ∙ same-length sa ∙ size_cells h its ∙ sym (size_turns h its) ∙ given_length 1 (all_turns h its)) ∙ given_numbers 1 (all_turns h its)
    where
      given_length : (n : ℕ) (ts : List Turn) → length (given n ts) ≡ length ts
      given_length n [] = refl
      given_length n (t ∷ ts) = let e = given_length (n + 1) ts in omega arith

      numbers : (n : ℕ) (zs : List ℤ) → map (λ r. pick (columns (3 ∷ 5 ∷ 6 ∷ [])) (pair 6 6 ∷ []) r) (map (λ z. (num 1 ∷ num n ∷ []) ++ IntItem z ∷ []) zs ++ []) ≡ map (λ z. IntItem z ∷ []) zs
      numbers n [] = refl
      numbers n (z ∷ zs) = ap (λ l. (IntItem z ∷ []) ∷ l) (numbers n zs)

      step : (rs : List Row) → AllOf (λ r. ones r ≡ num 1) rs → range_of rs ≡ map (λ z. IntItem z ∷ []) (ints_from (pos 1) (length rs))
      step [] e = refl
      step (r ∷ rs) e =
          ap spread (ones_count (r ∷ rs) e)
          ∙ numbers (length (r ∷ rs)) (ints_from (pos 1) (not_negative (pos (length (r ∷ rs)) -ℤ pos 1 +ℤ pos 1)))
          ∙ ap (λ z. map (λ z. IntItem z ∷ []) (ints_from (pos 1) (not_negative z))) (up_again (length (r ∷ rs)))

  abbrev row_of : Turn → Row
  row_of t = map_row_of (λ v. v) t

  as_flat : (ts : List Turn) → map row_of ts ≡ flat_map (λ t. row_of t ∷ []) ts
  as_flat [] = refl
  as_flat (t ∷ ts) = ap (λ l. row_of t ∷ l) (as_flat ts)

  abbrev beside_number : Row → List Row
  beside_number l = map (λ r. l ++ r) (filter (λ r. cell_eq (cell bare (columns (6 ∷ [])) (column 6) l) (cell bare four (column 3) r)) (turn_map a))

  each_turn : AllOf (λ (t : Turn). Like (beside_number (num t.number ∷ [])) (((num t.number ∷ []) ++ row_of t) ∷ [])) (turns h its)
  each_turn = all_mono _ _ (λ (t : Turn) (e : filter (λ r. cell_eq (num t.number) (cell bare four (column 3) r)) (flat_map (λ t. row_of t ∷ []) (turns h its)) ≡ row_of t ∷ []).
      like_map (map (λ r. (num t.number ∷ []) ++ r)) _ _ (like_one _ (row_of t) (same-trans (same-keep (λ r. cell_eq (num t.number) (cell bare four (column 3) r)) (same-trans numbered (same-of (as_flat (turns h its))))) (same-of e)))) (turns h its)
      (own_blocks (λ (t : Turn). t.number) (λ r. cell bare four (column 3) r) (λ t. row_of t ∷ []) (λ t. (refl, tt)) 0 (turns h its) (given_ascends h 0 (all_turns h its)))

  abbrev out_row : Row → Row
  out_row r = pick (columns (6 ∷ 0 ∷ 1 ∷ 2 ∷ 3 ∷ [])) (pair 0 0 ∷ pair 1 1 ∷ pair 2 2 ∷ []) r

  abbrev plain : Turn → Row
  plain t = num t.outer.number ∷ num t.place ∷ t.item ∷ []

  given_plain : (n : ℕ) (ts : List Turn) → map plain (given n ts) ≡ map plain ts
  given_plain n [] = refl
  given_plain n (t ∷ ts) = ap (λ l. plain t ∷ l) (given_plain (n + 1) ts)

  turns_plain : (i : Iter) (k : ℕ) (vs : List Cell) → map plain (turns_of i k vs) ≡ item_rows i.number k vs
  turns_plain i k [] = refl
  turns_plain i k (v ∷ vs) = ap (λ l. (num i.number ∷ num k ∷ v ∷ []) ∷ l) (turns_plain i (k + 1) vs)

  out_rows : (ts : List Turn) → map out_row (flat_map (λ (t : Turn). ((num t.number ∷ []) ++ row_of t) ∷ []) ts) ≡ map plain ts
  out_rows [] = refl
  out_rows (t ∷ ts) = ap (λ l. plain t ∷ l) (out_rows ts)

  -- the sorted rows are those of the values, in order
  pub sorted_like : Like (sorted_rows a) (value_rows h its)
  sorted_like = record {
    at = λ w.
        ap (λ ps. w (map out_row (flat_map beside_number ps))) places_are
        ∙ ap (λ q. w (map out_row q)) (flat-map beside_number (λ (t : Turn). num t.number ∷ []) (turns h its))
        ∙ (like_flat (λ (t : Turn). beside_number (num t.number ∷ [])) (λ t. ((num t.number ∷ []) ++ row_of t) ∷ []) (turns h its) each_turn).at (λ q. w (map out_row q))
        ∙ ap w (out_rows (turns h its) ∙ given_plain 1 (all_turns h its) ∙ map-flat plain (λ i. turns_of i 1 (h i)) its ∙ flat-all _ _ its (all_each _ (λ i. turns_plain i 1 (h i)) its));
  }
