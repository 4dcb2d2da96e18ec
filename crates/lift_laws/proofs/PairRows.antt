-- Two operands side by side: the rows of both items, the iterations that they name, and how many they are.
use Rattle.std.proofs.Common.{◌≡◌, ℕ, ◌+◌, ◌≤◌, Bool, true, false, cond, not, ◌&&◌, ◌||◌, List, [], ◌∷◌, ◌++◌, length, map, refl, sym, ap, ◌∙◌, arith}
use Rattle.std.specs.List.{filter, flat_map, list_any}
use Rattle.xq_base.specs.declared.code.Code.{Code}
use Rattle.xq_base.specs.declared.fun.Fun.{Fun}
use Rattle.plan_dag.specs.Cells.{Outcome, Gives, Fails, Silent, given, code_in}
use Rattle.plan_dag.specs.ItemRules.{Cell}
use Rattle.plan_dag.specs.Rows.{is_code}
use Rattle.plan_dag.specs.Meaning.{cell}
use Rattle.plan_dag.specs.Meaning.{cells as cells_at}
use Rattle.lift_laws.specs.Sums.{total, AllOf, Ascends, Same}
use Rattle.lift_laws.specs.Iterations.{Row, Iter, num, item_rows, value_rows, loop_rows}
use Rattle.lift_laws.specs.States.{column, three}
use Rattle.lift_laws.specs.Shapes.{bare, pair, columns, pick, less, cleared, second_rows, restrict_rows}
use Rattle.lift_laws.specs.Pairs.{PairCode, OfEach, OfBoth, fit_loop, beside_cols, side_rows, both_rows, both_cells, both_fail_rows, own_fail_rows, code_tables, gathered, side_value_rows, pair_value_rows, filled_rows}
use Rattle.lift_laws.proofs.Multi.{same-of, same-trans, same-map, same-flat, same-length, length-total, total-flat, total-keep, total-sum}
use Rattle.lift_laws.proofs.Picks.{all_each, all-map, flat-all, flat-flat, map-flat}
use Rattle.lift_laws.proofs.Loops.{same-join, rows_key}
use Rattle.lift_laws.proofs.Simple.{restrict_stands, literal_stands, either_stands, left_out}
use Rattle.lift_laws.proofs.Sizes.{size_cells, size_loop, total_most}
use Rattle.lift_laws.proofs.Marks.{Marks, some, marks_is, join_iters, unmarked_stands}
use Rattle.lift_laws.proofs.Operands.{has_two, marks_any, marks_second, marks_items, marks_kept}
use Rattle.lift_laws.proofs.Cleared.{AllMark, none_of, cleared_stands}
use Rattle.lift_laws.proofs.FunctionCases.{marks_loop, some_items}

-- the iterations that some of these tables name
pub marks_gathered : (bs : List (List Row)) (ps : List (Iter → Bool)) (its : List Iter) (l : List Row) → Ascends (λ i. i.number) 0 its → Same l (loop_rows its) → AllMark bs ps its → Marks (less l (cleared l bs)) (λ i. not (none_of ps i)) its
marks_gathered bs ps its l asc sl m =
    marks_loop (λ i. not (none_of ps i)) its _ asc (unmarked_stands (none_of ps) its l _ sl (marks_loop (none_of ps) its _ asc (cleared_stands bs ps its l sl m)))

abbrev pub fit : List Cell → List Cell → Bool
fit us vs = not (has_two us) && (not (has_two vs) && true)

-- both items beside each other, where each operand has one
abbrev pub side_at : ℕ → List Cell → List Cell → List Row
side_at n [] vs = []
side_at n (u ∷ []) [] = []
side_at n (u ∷ []) (v ∷ []) = (num n ∷ num 1 ∷ u ∷ num n ∷ v ∷ []) ∷ []
side_at n (u ∷ []) (v ∷ w ∷ vs) = []
side_at n (u ∷ w ∷ us) vs = []

abbrev pub moved : Row → Row
moved r = pick three (pair 4 0 ∷ pair 5 2 ∷ []) r

moved_key : (n k : ℕ) (vs : List Cell) → AllOf (λ r. cell bare (columns (4 ∷ 5 ∷ [])) (column 4) (moved r) ≡ num n) (item_rows n k vs)
moved_key n k [] = tt
moved_key n k (v ∷ vs) = (refl, moved_key n (k + 1) vs)

abbrev pub lefts : Bool → ℕ → List Cell → List Row
lefts b n us = cond b (item_rows n 1 us) []

left_key : (b : Bool) (n : ℕ) (us : List Cell) → AllOf (λ r. cell bare three (column 0) r ≡ num n) (lefts b n us)
left_key true n us = rows_key n 1 us
left_key false n us = tt

kept_apart : (p : Iter → Bool) (g : Iter → List Cell) (its : List Iter) → value_rows g (filter p its) ≡ flat_map (λ i. lefts (p i) i.number (g i)) its
kept_apart p g [] = refl
kept_apart p g (i ∷ its) =
    elim (p i) as (λ b. value_rows g (cond b (i ∷ filter p its) (filter p its)) ≡ lefts b i.number (g i) ++ flat_map (λ j. lefts (p j) j.number (g j)) its) [
      | true ↦ ap (λ l. item_rows i.number 1 (g i) ++ l) (kept_apart p g its)
      | false ↦ kept_apart p g its
    ]

joined_at : (n : ℕ) (us vs : List Cell) → flat_map (λ l. map (λ r. l ++ r) (map moved (item_rows n 1 vs))) (lefts (fit us vs) n us) ≡ side_at n us vs
joined_at n [] [] = refl
joined_at n [] (v ∷ []) = refl
joined_at n [] (v ∷ w ∷ vs) = refl
joined_at n (u ∷ []) [] = refl
joined_at n (u ∷ []) (v ∷ []) = refl
joined_at n (u ∷ []) (v ∷ w ∷ vs) = refl
joined_at n (u ∷ w ∷ us) vs = refl

-- what a function fails with of both, or of one beside itself
abbrev pub both_hit : Fun → Code → List Cell → List Cell → Bool
both_hit f d [] vs = false
both_hit f d (u ∷ []) [] = false
both_hit f d (u ∷ []) (v ∷ []) = is_code d (code_in (bare.value f (u ∷ v ∷ [])))
both_hit f d (u ∷ []) (v ∷ w ∷ vs) = false
both_hit f d (u ∷ w ∷ us) vs = false

abbrev pub own_hit : Fun → Code → Cell → Bool
own_hit f d u = is_code d (code_in (bare.value f (u ∷ u ∷ [])))

abbrev pub hit : Fun → PairCode → List Cell → List Cell → Bool
hit f (OfEach d) us vs = list_any (own_hit f d) us || list_any (own_hit f d) vs
hit f (OfBoth d) us vs = both_hit f d us vs

-- the first code is also that of a second item
abbrev pub unfit : Fun → PairCode → List Cell → List Cell → Bool
unfit f e us vs = not (not (has_two us) && (not (has_two vs) && (not (hit f e us vs) && true)))

abbrev with_both : Fun → Row → List Row
with_both f r = map (λ v. r ++ v ∷ []) (given (bare.value f (both_cells r)))

abbrev out : Row → Row
out r = pick (columns (0 ∷ 1 ∷ 2 ∷ 4 ∷ 5 ∷ 3 ∷ [])) (pair 0 0 ∷ pair 1 1 ∷ pair 2 3 ∷ []) r

-- what a function gives of both items
abbrev pub given_at : Fun → List Cell → List Cell → List Cell
given_at f [] vs = []
given_at f (u ∷ []) [] = []
given_at f (u ∷ []) (v ∷ []) = given (bare.value f (u ∷ v ∷ []))
given_at f (u ∷ []) (v ∷ w ∷ vs) = []
given_at f (u ∷ w ∷ us) vs = []

joined_if : (b : Bool) (n : ℕ) (us vs : List Cell) → (b ≡ true → fit us vs ≡ true) → flat_map (λ l. map (λ r. l ++ r) (map moved (item_rows n 1 vs))) (lefts b n us) ≡ cond b (side_at n us vs) []
joined_if true n us vs k = ap (λ b. flat_map (λ l. map (λ r. l ++ r) (map moved (item_rows n 1 vs))) (lefts b n us)) (sym (k refl)) ∙ joined_at n us vs
joined_if false n us vs k = refl

side_few : (n : ℕ) (us vs : List Cell) → total (λ (r : Row). 1) (side_at n us vs) ≤ 1
side_few n [] vs = omega arith
side_few n (u ∷ []) [] = omega arith
side_few n (u ∷ []) (v ∷ []) = omega arith
side_few n (u ∷ []) (v ∷ w ∷ vs) = omega arith
side_few n (u ∷ w ∷ us) vs = omega arith

-- in any iterations
module _ (p : Iter → Bool) (g h : Iter → List Cell) (its : List Iter) (m a b : List Row) (asc : Ascends (λ i. i.number) 0 its) (sm : Same m (loop_rows (filter p its))) (sa : Same a (value_rows g its)) (sb : Same b (value_rows h its)) where
  pub sided_left : Same (restrict_rows m a) (value_rows g (filter p its))
  sided_left = restrict_stands p g its _ a asc sm sa

  pub sides_join : Same (side_rows m a b) (flat_map (λ i. flat_map (λ l. map (λ r. l ++ r) (map moved (item_rows i.number 1 (h i)))) (lefts (p i) i.number (g i))) its)
  sides_join =
      let L = λ (i : Iter). lefts (p i) i.number (g i) in
      let R = λ (i : Iter). map moved (item_rows i.number 1 (h i)) in
      let left = same-trans sided_left (same-of (kept_apart p g its)) in
      let right = same-trans (same-map moved sb) (same-of (map-flat moved (λ i. item_rows i.number 1 (h i)) its)) in
      same-trans (same-join three (columns (4 ∷ 5 ∷ [])) (column 0) (column 4) left right)
      (join_iters (cell bare three (column 0)) (cell bare (columns (4 ∷ 5 ∷ [])) (column 4)) L R its asc (λ i. left_key (p i) i.number (g i)) (λ i. all-map _ moved (item_rows i.number 1 (h i)) (moved_key i.number 1 (h i))))

  pub few_sided_left : length (restrict_rows m a) ≤ length a
  few_sided_left =
      let x = same-length sided_left ∙ size_cells g (filter p its) ∙ total-keep (λ i. length (g i)) p its in
      let y = same-length sa ∙ size_cells g its in
      let k = total_most (λ i. cond (p i) (length (g i)) 0) (λ i. length (g i)) its (λ i. no_more (p i) (length (g i))) in
      omega arith
    where
      no_more : (b : Bool) (n : ℕ) → cond b n 0 ≤ n
      no_more true n = omega arith
      no_more false n = omega arith

-- in those in which no operand has a second item
module _ (p : Iter → Bool) (g h : Iter → List Cell) (its : List Iter) (m a b : List Row) (asc : Ascends (λ i. i.number) 0 its) (sm : Same m (loop_rows (filter p its))) (sa : Same a (value_rows g its)) (sb : Same b (value_rows h its))
    (fits : (i : Iter) → p i ≡ true → fit (g i) (h i) ≡ true) where
  pub sides_stand : Same (side_rows m a b) (flat_map (λ i. cond (p i) (side_at i.number (g i) (h i)) []) its)
  sides_stand = same-trans (sides_join p g h its m a b asc sm sa sb) (same-of (flat-all _ _ its (all_each _ (λ i. joined_if (p i) i.number (g i) (h i) (fits i)) its)))

  pub few_sides : length (side_rows m a b) ≤ length its
  few_sides =
      let side = λ (i : Iter). cond (p i) (side_at i.number (g i) (h i)) [] in
      let x = same-length sides_stand ∙ length-total (flat_map side its) ∙ total-flat (λ r. 1) side its in
      let y = total_most (λ i. total (λ (r : Row). 1) (side i)) (λ i. 1) its (λ i. one (p i) i) in
      let z = length-total its in
      omega arith
    where
      one : (d : Bool) (i : Iter) → total (λ (r : Row). 1) (cond d (side_at i.number (g i) (h i)) []) ≤ 1
      one true i = side_few i.number (g i) (h i)
      one false i = omega arith

given_side : (f : Fun) (n : ℕ) (us vs : List Cell) → map out (flat_map (with_both f) (side_at n us vs)) ≡ item_rows n 1 (given_at f us vs)
given_side f n [] vs = refl
given_side f n (u ∷ []) [] = refl
given_side f n (u ∷ []) (v ∷ []) = shown (bare.value f (u ∷ v ∷ []))
  where
    shown : (x : Outcome Cell) → map out (map (λ y. (num n ∷ num 1 ∷ u ∷ num n ∷ v ∷ []) ++ y ∷ []) (given x) ++ []) ≡ item_rows n 1 (given x)
    shown (Gives y) = refl
    shown (Fails d) = refl
    shown Silent = refl
given_side f n (u ∷ []) (v ∷ w ∷ vs) = refl
given_side f n (u ∷ w ∷ us) vs = refl

-- what a function gives of both items, in these iterations
pub side_values_stand : (f : Fun) (p : Iter → Bool) (g h : Iter → List Cell) (its : List Iter) (j : List Row) → Same j (flat_map (λ i. cond (p i) (side_at i.number (g i) (h i)) []) its)
    → Same (side_value_rows f j) (value_rows (λ i. cond (p i) (given_at f (g i) (h i)) []) its)
side_values_stand f p g h its j s =
    let side = λ (i : Iter). cond (p i) (side_at i.number (g i) (h i)) [] in
    same-trans (same-map out (same-flat (with_both f) s))
    (same-of (ap (map out) (flat-flat (with_both f) side its)
    ∙ map-flat out (λ i. flat_map (with_both f) (side i)) its
    ∙ flat-all _ _ its (all_each _ (λ i. told (p i) i) its)))
  where
    told : (d : Bool) (i : Iter) → map out (flat_map (with_both f) (cond d (side_at i.number (g i) (h i)) [])) ≡ item_rows i.number 1 (cond d (given_at f (g i) (h i)) [])
    told true i = given_side f i.number (g i) (h i)
    told false i = refl

module _ (g h : Iter → List Cell) (its : List Iter) (l a b : List Row) (asc : Ascends (λ i. i.number) 0 its) (sl : Same l (loop_rows its)) (sa : Same a (value_rows g its)) (sb : Same b (value_rows h its)) where
  abbrev fits : Iter → Bool
  fits i = fit (g i) (h i)

  fit_stands : Same (fit_loop l a b) (loop_rows (filter fits its))
  fit_stands = cleared_stands (second_rows a ∷ second_rows b ∷ []) ((λ i. has_two (g i)) ∷ (λ i. has_two (h i)) ∷ []) its l sl (marks_second g its a asc sa, (marks_second h its b asc sb, tt))

  fit_here : (i : Iter) → fits i ≡ true → fit (g i) (h i) ≡ true
  fit_here i e = e

  only_fit : (n : ℕ) (us vs : List Cell) → cond (fit us vs) (side_at n us vs) [] ≡ side_at n us vs
  only_fit n [] [] = refl
  only_fit n [] (v ∷ []) = refl
  only_fit n [] (v ∷ w ∷ vs) = refl
  only_fit n (u ∷ []) [] = refl
  only_fit n (u ∷ []) (v ∷ []) = refl
  only_fit n (u ∷ []) (v ∷ w ∷ vs) = refl
  only_fit n (u ∷ w ∷ us) vs = refl

  sided : Same (both_rows l a b) (flat_map (λ i. cond (fits i) (side_at i.number (g i) (h i)) []) its)
  sided = sides_stand fits g h its _ a b asc fit_stands sa sb fit_here

  both_stand : Same (both_rows l a b) (flat_map (λ i. side_at i.number (g i) (h i)) its)
  both_stand = same-trans sided (same-of (flat-all _ _ its (all_each _ (λ i. only_fit i.number (g i) (h i)) its)))

  pub few_left : length (restrict_rows (fit_loop l a b) a) ≤ length a
  few_left = few_sided_left fits g h its _ a b asc fit_stands sa sb

  pub few_both : length (both_rows l a b) ≤ length its
  few_both = few_sides fits g h its _ a b asc fit_stands sa sb fit_here

  pub marks_both : (f : Fun) (d : Code) → Marks (both_fail_rows f d (both_rows l a b)) (λ i. both_hit f d (g i) (h i)) its
  marks_both f d =
      marks_is (all_each _ (λ i. told (g i) (h i) i.number) its)
      (marks_kept beside_cols (λ r. is_code d (code_in (bare.value f (both_cells r)))) (λ i. side_at i.number (g i) (h i)) its _ asc (λ i. key i.number (g i) (h i)) both_stand)
    where
      some_if : (b : Bool) (r : Row) → some (cond b (r ∷ []) []) ≡ b
      some_if true r = refl
      some_if false r = refl

      told : (us vs : List Cell) (n : ℕ) → some (filter (λ r. is_code d (code_in (bare.value f (both_cells r)))) (side_at n us vs)) ≡ both_hit f d us vs
      told [] vs n = refl
      told (u ∷ []) [] n = refl
      told (u ∷ []) (v ∷ []) n = some_if (is_code d (code_in (bare.value f (u ∷ v ∷ [])))) (num n ∷ num 1 ∷ u ∷ num n ∷ v ∷ [])
      told (u ∷ []) (v ∷ w ∷ vs) n = refl
      told (u ∷ w ∷ us) vs n = refl

      key : (n : ℕ) (us vs : List Cell) → AllOf (λ r. cell bare beside_cols (column 0) r ≡ num n) (side_at n us vs)
      key n [] vs = tt
      key n (u ∷ []) [] = tt
      key n (u ∷ []) (v ∷ []) = (refl, tt)
      key n (u ∷ []) (v ∷ w ∷ vs) = tt
      key n (u ∷ w ∷ us) vs = tt

  marks_own : (f : Fun) (d : Code) (k : Iter → List Cell) (e : List Row) → Same e (value_rows k its) → Marks (own_fail_rows f d e) (λ i. list_any (own_hit f d) (k i)) its
  marks_own f d k e s = marks_items (own_hit f d) (λ r. is_code d (code_in (bare.value f (cells_at bare three (column 2 ∷ column 2 ∷ []) r)))) (λ n j v. refl) k its e asc s

  pub marks_hit : (f : Fun) (e : PairCode) → Marks (gathered l (code_tables f e l a b)) (λ i. hit f e (g i) (h i)) its
  marks_hit f (OfEach d) =
      marks_is (all_each _ (λ i. either (list_any (own_hit f d) (g i)) (list_any (own_hit f d) (h i))) its)
      (marks_gathered (own_fail_rows f d a ∷ own_fail_rows f d b ∷ []) ((λ i. list_any (own_hit f d) (g i)) ∷ (λ i. list_any (own_hit f d) (h i)) ∷ []) its l asc sl (marks_own f d g a sa, (marks_own f d h b sb, tt)))
    where
      either : (x y : Bool) → not (not x && (not y && true)) ≡ (x || y)
      either true y = refl
      either false true = refl
      either false false = refl
  marks_hit f (OfBoth d) = marks_both f d

  pub marks_unfit : (f : Fun) (e : PairCode) → Marks (gathered l (second_rows a ∷ second_rows b ∷ code_tables f e l a b)) (λ i. unfit f e (g i) (h i)) its
  marks_unfit f (OfEach d) =
      marks_is (all_each _ (λ i. ap (λ z. not (not (has_two (g i)) && (not (has_two (h i)) && z))) (either (list_any (own_hit f d) (g i)) (list_any (own_hit f d) (h i)))) its)
      (marks_gathered (second_rows a ∷ second_rows b ∷ own_fail_rows f d a ∷ own_fail_rows f d b ∷ []) ((λ i. has_two (g i)) ∷ (λ i. has_two (h i)) ∷ (λ i. list_any (own_hit f d) (g i)) ∷ (λ i. list_any (own_hit f d) (h i)) ∷ []) its l asc sl
      (marks_second g its a asc sa, (marks_second h its b asc sb, (marks_own f d g a sa, (marks_own f d h b sb, tt)))))
    where
      either : (x y : Bool) → (not x && (not y && true)) ≡ (not (x || y) && true)
      either true y = refl
      either false true = refl
      either false false = refl
  marks_unfit f (OfBoth d) =
      marks_gathered (second_rows a ∷ second_rows b ∷ both_fail_rows f d (both_rows l a b) ∷ []) ((λ i. has_two (g i)) ∷ (λ i. has_two (h i)) ∷ (λ i. both_hit f d (g i) (h i)) ∷ []) its l asc sl
      (marks_second g its a asc sa, (marks_second h its b asc sb, (marks_both f d, tt)))

  pub pair_values_stand : (f : Fun) → Same (pair_value_rows f l a b) (value_rows (λ i. given_at f (g i) (h i)) its)
  pair_values_stand f = same-trans (side_values_stand f fits g h its _ sided) (same-of (flat-all _ _ its (all_each _ (λ i. ap (item_rows i.number 1) (only_given (g i) (h i))) its)))
    where
      only_given : (us vs : List Cell) → cond (fit us vs) (given_at f us vs) [] ≡ given_at f us vs
      only_given [] [] = refl
      only_given [] (v ∷ []) = refl
      only_given [] (v ∷ w ∷ vs) = refl
      only_given (u ∷ []) [] = refl
      only_given (u ∷ []) (v ∷ []) = refl
      only_given (u ∷ []) (v ∷ w ∷ vs) = refl
      only_given (u ∷ w ∷ us) vs = refl

-- an operand, with an item where it has none
abbrev pub fill : Cell → List Cell → List Cell
fill w [] = w ∷ []
fill w (v ∷ vs) = v ∷ vs

filled_at : (w : Cell) (vs : List Cell) → cond (some vs) vs (w ∷ []) ≡ fill w vs
filled_at w [] = refl
filled_at w (v ∷ vs) = ap (λ b. cond b (v ∷ vs) (w ∷ [])) (sym (some_items (v ∷ vs)))

pub filled_stands : (w : Cell) (h : Iter → List Cell) (its : List Iter) (l a : List Row) → Ascends (λ i. i.number) 0 its → Same l (loop_rows its) → Same a (value_rows h its) → Same (filled_rows w l a) (value_rows (λ i. fill w (h i)) its)
filled_stands w h its l a asc sl sa =
    let p = λ (i : Iter). some (h i) in
    same-trans (either_stands p h (λ i. w ∷ []) its _ _ (same-trans sa (same-of (left_out p h (λ i e. none_at (h i) e) its))) (literal_stands w (filter (λ i. not (p i)) its) _ (unmarked_stands p its l _ sl (marks_any h its a asc sa))))
    (same-of (flat-all _ _ its (all_each _ (λ i. ap (item_rows i.number 1) (filled_at w (h i))) its)))
  where
    none_at : (vs : List Cell) → some vs ≡ false → vs ≡ []
    none_at [] e = refl
    none_at (v ∷ vs) e = let z = some_items (v ∷ vs) ∙ e in cc

pub few_filled : (w : Cell) (h : Iter → List Cell) (its : List Iter) (l a : List Row) → Ascends (λ i. i.number) 0 its → Same l (loop_rows its) → Same a (value_rows h its) → length (filled_rows w l a) ≤ length l + length a
few_filled w h its l a asc sl sa =
    let x = same-length (filled_stands w h its l a asc sl sa) ∙ size_cells (λ i. fill w (h i)) its in
    let y = same-length sl ∙ size_loop its ∙ length-total its in
    let z = same-length sa ∙ size_cells h its in
    let e = total-sum (λ (i : Iter). 1) (λ i. length (h i)) its in
    let m = total_most (λ i. length (fill w (h i))) (λ i. 1 + length (h i)) its (λ i. one_more (h i)) in
    omega arith
  where
    one_more : (vs : List Cell) → length (fill w vs) ≤ 1 + length vs
    one_more [] = omega arith
    one_more (v ∷ vs) = omega arith
