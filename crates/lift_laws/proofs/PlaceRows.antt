-- Rows beside another operand's one item, of which a comparison keeps some.
use Rattle.std.proofs.Common.{◌≡◌, ℕ, ◌+◌, ◌<◌, ◌≤◌, Bool, true, false, cond, List, [], ◌∷◌, ◌++◌, length, map, refl, sym, ap, ◌∙◌, arith}
use Rattle.std.specs.List.{filter, flat_map}
use Rattle.xq_base.specs.declared.fun.Fun.{Fun}
use Rattle.doc_table.specs.Values.{Items}
use Rattle.plan_dag.specs.Cells.{Outcome, Gives, Fails, Silent, given}
use Rattle.plan_dag.specs.ItemRules.{Cell, is_true}
use Rattle.plan_dag.specs.Meaning.{cell}
use Rattle.lift_laws.specs.Sums.{total, Ascends, Same}
use Rattle.lift_laws.specs.Iterations.{Row, Iter, num, item_rows, value_rows, loop_rows}
use Rattle.lift_laws.specs.States.{column}
use Rattle.lift_laws.specs.Shapes.{bare, pair, pick}
use Rattle.lift_laws.specs.Pairs.{side_rows}
use Rattle.lift_laws.specs.Places.{Compared, OfPlaces, OfItems, given_from, tested_cols, tested_cells, passing_rows}
use Rattle.lift_laws.proofs.Multi.{same-of, same-trans, same-map, same-keep, same-flat, same-length, length-total, total-flat}
use Rattle.lift_laws.proofs.Picks.{all_each, flat-all, flat-flat, map-append, map-flat}
use Rattle.lift_laws.proofs.Sizes.{size_cells, total_most}
use Rattle.lift_laws.proofs.Keeping.{filter_append}
use Rattle.lift_laws.proofs.Operands.{keep_flat}
use Rattle.lift_laws.proofs.PairRows.{lefts, sides_join}
use Rattle.lift_laws.proofs.JoinCase.{beside_it, side_size}
use Rattle.lift_laws.proofs.ReadingCase.{Single}
use Rattle.lift_laws.proofs.Renumber.{AtPlaces, place, placed, items_in, renumber_stands}

-- the cells of those items that pass a test of place and item
abbrev pub chosen : (ℕ → Cell → Bool) → (ℕ → Cell → Cell) → ℕ → List Cell → AtPlaces
chosen passes told k [] = []
chosen passes told k (v ∷ vs) = cond (passes k v) ((k, told k v) ∷ chosen passes told (k + 1) vs) (chosen passes told (k + 1) vs)

chosen_rise : (passes : ℕ → Cell → Bool) (told : ℕ → Cell → Cell) (j k : ℕ) (vs : List Cell) → j < k → Ascends place j (chosen passes told k vs)
chosen_rise passes told j k [] h = tt
chosen_rise passes told j k (v ∷ vs) h =
    let a = chosen_rise passes told k (k + 1) vs (omega arith) in
    let b = chosen_rise passes told j (k + 1) vs (omega arith) in
    elim (passes k v) as (λ d. Ascends place j (cond d ((k, told k v) ∷ chosen passes told (k + 1) vs) (chosen passes told (k + 1) vs))) [ true ↦ (h, a) | false ↦ b ]

chosen_few : (passes : ℕ → Cell → Bool) (told : ℕ → Cell → Cell) (k : ℕ) (vs : List Cell) → length (items_in (chosen passes told k vs)) ≤ length vs
chosen_few passes told k [] = omega arith
chosen_few passes told k (v ∷ vs) =
    let r = chosen_few passes told (k + 1) vs in
    let more = chosen passes told (k + 1) vs in
    elim (passes k v) as (λ b. length (items_in (cond b ((k, told k v) ∷ more) more)) ≤ length (v ∷ vs)) [ true ↦ omega arith | false ↦ omega arith ]

-- whether a comparison is true of a place or an item beside another one, and what is given then
abbrev pub holds_in : Outcome Cell → Bool
holds_in (Gives y) = is_true y
holds_in (Fails d) = false
holds_in Silent = false

abbrev pub compared_cell : Compared → ℕ → Cell → Cell
compared_cell OfPlaces k v = num k
compared_cell OfItems k v = v

abbrev pub told : Compared → ℕ → Cell → Cell
told OfPlaces k v = v
told OfItems k v = num k

abbrev pub passes : Compared → Fun → Cell → ℕ → Cell → Bool
passes q g w k v = holds_in (bare.value g (compared_cell q k v ∷ w ∷ []))

-- in one iteration
abbrev pub chosen_in : Compared → Fun → Items → Items → AtPlaces
chosen_in q g (w ∷ []) us = chosen (passes q g w) (told q) 1 us
chosen_in q g _ us = []

abbrev with_test : Compared → Fun → Row → List Row
with_test q g r = map (λ v. r ++ v ∷ []) (given (bare.value g (tested_cells q r)))

abbrev passed : Row → Bool
passed r = is_true (cell bare tested_cols (column 3) r)

abbrev out : Compared → Row → Row
out q r = pick tested_cols (pair 0 0 ∷ pair 1 1 ∷ pair 2 (given_from q) ∷ []) r

one_row : (q : Compared) (g : Fun) (n k : ℕ) (w v : Cell) → map (out q) (filter passed (with_test q g (num n ∷ num k ∷ v ∷ num n ∷ w ∷ []))) ≡ cond (passes q g w k v) ((num n ∷ num k ∷ told q k v ∷ []) ∷ []) []
one_row OfPlaces g n k w v = go (bare.value g (num k ∷ w ∷ []))
  where
    go : (x : Outcome Cell) → map (out OfPlaces) (filter passed (map (λ y. (num n ∷ num k ∷ v ∷ num n ∷ w ∷ []) ++ y ∷ []) (given x))) ≡ cond (holds_in x) ((num n ∷ num k ∷ v ∷ []) ∷ []) []
    go (Gives y) = elim (is_true y) as (λ b. map (out OfPlaces) (cond b ((num n ∷ num k ∷ v ∷ num n ∷ w ∷ y ∷ []) ∷ []) []) ≡ cond b ((num n ∷ num k ∷ v ∷ []) ∷ []) []) [ true ↦ refl | false ↦ refl ]
    go (Fails d) = refl
    go Silent = refl
one_row OfItems g n k w v = go (bare.value g (v ∷ w ∷ []))
  where
    go : (x : Outcome Cell) → map (out OfItems) (filter passed (map (λ y. (num n ∷ num k ∷ v ∷ num n ∷ w ∷ []) ++ y ∷ []) (given x))) ≡ cond (holds_in x) ((num n ∷ num k ∷ num k ∷ []) ∷ []) []
    go (Gives y) = elim (is_true y) as (λ b. map (out OfItems) (cond b ((num n ∷ num k ∷ v ∷ num n ∷ w ∷ y ∷ []) ∷ []) []) ≡ cond b ((num n ∷ num k ∷ num k ∷ []) ∷ []) []) [ true ↦ refl | false ↦ refl ]
    go (Fails d) = refl
    go Silent = refl

item_tests : (q : Compared) (g : Fun) (n k : ℕ) (w : Cell) (vs : Items) → map (out q) (filter passed (flat_map (with_test q g) (flat_map (beside_it n (w ∷ [])) (item_rows n k vs)))) ≡ placed n (chosen (passes q g w) (told q) k vs)
item_tests q g n k w [] = refl
item_tests q g n k w (v ∷ vs) =
    let first = with_test q g (num n ∷ num k ∷ v ∷ num n ∷ w ∷ []) in
    let rest = flat_map (with_test q g) (flat_map (beside_it n (w ∷ [])) (item_rows n (k + 1) vs)) in
    let row = num n ∷ num k ∷ told q k v ∷ [] in
    let more = chosen (passes q g w) (told q) (k + 1) vs in
    ap (map (out q)) (filter_append passed first rest)
    ∙ map-append (out q) (filter passed first) (filter passed rest)
    ∙ ap (λ l. l ++ map (out q) (filter passed rest)) (one_row q g n k w v)
    ∙ ap (λ l. cond (passes q g w k v) (row ∷ []) [] ++ l) (item_tests q g n (k + 1) w vs)
    ∙ elim (passes q g w k v) as (λ b. cond b (row ∷ []) [] ++ placed n more ≡ placed n (cond b ((k, told q k v) ∷ more) more)) [ true ↦ refl | false ↦ refl ]

one_iteration : (q : Compared) (g : Fun) (b : Bool) (n : ℕ) (us ss : Items) → (b ≡ true → Single ss) → map (out q) (filter passed (flat_map (with_test q g) (flat_map (beside_it n ss) (lefts b n us)))) ≡ placed n (cond b (chosen_in q g ss us) [])
one_iteration q g true n us ss one =
    let s = one refl in
    ap (λ x. map (out q) (filter passed (flat_map (with_test q g) (flat_map (beside_it n x) (item_rows n 1 us))))) s.1 ∙ item_tests q g n 1 s.0 us ∙ ap (λ x. placed n (chosen_in q g x us)) (sym s.1)
one_iteration q g false n us ss one = refl

-- in the iterations p, in each of which the other operand has one item
module _ (p : Iter → Bool) (h k : Iter → List Cell) (its : List Iter) (m a b : List Row) (asc : Ascends (λ i. i.number) 0 its) (sm : Same m (loop_rows (filter p its))) (sa : Same a (value_rows h its)) (sb : Same b (value_rows k its))
    (one : (i : Iter) → p i ≡ true → Single (k i)) where
  abbrev sides_at : Iter → List Row
  sides_at i = flat_map (beside_it i.number (k i)) (lefts (p i) i.number (h i))

  sides_there : Same (side_rows m a b) (flat_map sides_at its)
  sides_there = sides_join p h k its m a b asc sm sa sb

  abbrev kept_at : Compared → Fun → Iter → AtPlaces
  kept_at q g i = cond (p i) (chosen_in q g (k i) (h i)) []

  pub passing_stand : (q : Compared) (g : Fun) → Same (passing_rows q g (side_rows m a b)) (value_rows (λ i. items_in (cond (p i) (chosen_in q g (k i) (h i)) [])) its)
  passing_stand q g =
      renumber_stands (kept_at q g) its _ asc (λ i. rises i (p i) (k i))
      (same-trans (same-map (out q) (same-keep passed (same-flat (with_test q g) sides_there)))
      (same-of (ap (λ l. map (out q) (filter passed l)) (flat-flat (with_test q g) sides_at its)
      ∙ ap (map (out q)) (keep_flat passed (λ i. flat_map (with_test q g) (sides_at i)) its)
      ∙ map-flat (out q) (λ i. filter passed (flat_map (with_test q g) (sides_at i))) its
      ∙ flat-all _ _ its (all_each _ (λ i. one_iteration q g (p i) i.number (h i) (k i) (one i)) its))))
    where
      rises : (i : Iter) (d : Bool) (ss : Items) → Ascends place 0 (cond d (chosen_in q g ss (h i)) [])
      rises i false ss = tt
      rises i true [] = tt
      rises i true (w ∷ []) = chosen_rise (passes q g w) (told q) 0 1 (h i) (omega arith)
      rises i true (w ∷ v ∷ ss) = tt

  pub few_beside : length (side_rows m a b) ≤ length a
  few_beside =
      let x = same-length sides_there ∙ length-total (flat_map sides_at its) ∙ total-flat (λ r. 1) sides_at its in
      let y = total_most (λ i. total (λ (r : Row). 1) (sides_at i)) (λ i. length (h i)) its (λ i. side_size (p i) i.number (h i) (k i) (one i)) in
      let z = same-length sa ∙ size_cells h its in
      omega arith

  pub few_passing : (q : Compared) (g : Fun) → length (passing_rows q g (side_rows m a b)) ≤ length a
  few_passing q g =
      let x = same-length (passing_stand q g) ∙ size_cells (λ i. items_in (cond (p i) (chosen_in q g (k i) (h i)) [])) its in
      let y = total_most (λ i. length (items_in (cond (p i) (chosen_in q g (k i) (h i)) []))) (λ i. length (h i)) its (λ i. some_few (p i) (k i) (h i)) in
      let z = same-length sa ∙ size_cells h its in
      omega arith
    where
      some_few : (d : Bool) (ss us : Items) → length (items_in (cond d (chosen_in q g ss us) [])) ≤ length us
      some_few false ss us = omega arith
      some_few true [] us = omega arith
      some_few true (w ∷ []) us = chosen_few (passes q g w) (told q) 1 us
      some_few true (w ∷ v ∷ ss) us = omega arith
