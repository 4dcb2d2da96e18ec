-- Calls of `distinct-values`, from the rows of their operators: the first of equal texts and the first of other equal values, by
-- their positions.
use Rattle.std.proofs.Common.{◌≡◌, ℕ, ◌+◌, ◌<◌, ◌≤◌, Bool, true, false, cond, not, ◌&&◌, ◌||◌, List, [], ◌∷◌, ◌++◌, length, map, refl, sym, ap, ◌∙◌, arith, None, Less, Equal, Greater, is_eq, ℤ, int_lt}
use Rattle.std.proofs.Math.Bool.{and-true}
use Rattle.std.specs.List.{filter, flat_map}
use Rattle.std.specs.Ordering.{int_eq}
use Rattle.std.proofs.Math.Nat.{max-le}
use Rattle.xq_base.specs.declared.code.Code.TheVariants as c
use Rattle.xq_base.specs.declared.fun.Fun.TheVariants as f
use Rattle.xq_base.specs.Texts.{text_eq}
use Rattle.xq_base.specs.Words.{char_count}
use Rattle.xq_base.specs.Atoms.{Atom, IntAtom, TextAtom, UntypedAtom, BoolAtom, text_of}
use Rattle.xq_base.specs.Comparisons.{same_atom}
use Rattle.xq_base.specs.Aggregates.{is_among, distinct_from, distinct}
use Rattle.doc_table.specs.Items.{TextItem}
use Rattle.doc_table.specs.Orders.{has}
use Rattle.doc_table.specs.Values.{item_of_atom, items_of, data_of, atomized}
use Rattle.doc_table.specs.NodeRules.{Docs}
use Rattle.plan_dag.specs.declared.op.OpId.{OpId}
use Rattle.plan_dag.specs.Cells.{given, code_in}
use Rattle.plan_dag.specs.ItemRules.{Cell, cell_eq}
use Rattle.plan_dag.specs.Orders.{firsts}
use Rattle.plan_dag.specs.Rows.{all_same, is_code}
use Rattle.plan_dag.specs.Meaning.{cells}
use Rattle.core_meaning.specs.Expr.{Site, Apply}
use Rattle.core_meaning.specs.Meaning.{value_in}
use Rattle.lift_laws.specs.Sums.{total, AllOf, Ascends, Same}
use Rattle.lift_laws.specs.Iterations.{Row, Iter, num, item_rows, value_rows, loop_rows}
use Rattle.lift_laws.specs.Bulk.{list_of}
use Rattle.lift_laws.specs.States.{State, at, Makes, Holds, HoldAll, column, three, single}
use Rattle.lift_laws.specs.Shapes.{bare, pair, pick, four, five, beside, data_rows}
use Rattle.lift_laws.specs.Aggregates.{sorted_rows}
use Rattle.lift_laws.specs.Distinct.{texts_beside, first_texts, first_others, first_values, distinct_rows, distinct_most}
use Rattle.lift_laws.specs.Lifting.{CallLifts, call_answer, call_cost}
use Rattle.lift_laws.proofs.Numbers.{num_same, nat_eq_above, cell_eq_self}
use Rattle.lift_laws.proofs.Multi.{same-of, same-trans, same-split, same-length, total-append, total-ext, total-flat}
use Rattle.lift_laws.proofs.Picks.{all_each, all-map, flat-all, flat-flat, map-flat, map-map}
use Rattle.lift_laws.proofs.Sizes.{map_length, size_cells, total_most}
use Rattle.lift_laws.proofs.Operands.{keep_flat}
use Rattle.lift_laws.proofs.Marks.{fault_in, code_self}
use Rattle.lift_laws.proofs.Staged.{args_few}
use Rattle.lift_laws.proofs.FunctionCases.{quiet_call}
use Rattle.lift_laws.proofs.DataCase.{data_stands}
use Rattle.lift_laws.proofs.SortedRows.{sorted_like}
use Rattle.lift_laws.proofs.Renumber.{AtPlaces, place, placed, items_in, renumber_stands}
use Rattle.lift_laws.proofs.FirstLists.{kept_pass, firsts_blocks, firsts_class, firsts_ascend, firsts_map}

-- values at their places
abbrev Spot : Type 0
Spot = ℕ × Atom

abbrev spots : ℕ → List Atom → List Spot
spots k [] = []
spots k (a ∷ as') = (k, a) ∷ spots (k + 1) as'

abbrev same_spot : Spot → Spot → Bool
same_spot x y = same_atom x.1 y.1

abbrev value_at : Spot → Atom
value_at x = x.1

abbrev spot_place : Spot → ℕ
spot_place x = x.0

-- the first of equal ones
abbrev kept : List Atom → List Spot
kept as' = firsts same_spot [] (spots 1 as')

among_values : (k : ℕ) (a : Atom) (seen : List Spot) → has same_spot (k, a) seen ≡ is_among a (map value_at seen)
among_values k a [] = refl
among_values k a (x ∷ xs) = ap (λ b. same_atom a x.1 || b) (among_values k a xs)

kept_values : (seen : List Spot) (k : ℕ) (as' : List Atom) → map value_at (firsts same_spot seen (spots k as')) ≡ distinct_from (map value_at seen) as'
kept_values seen k [] = refl
kept_values seen k (a ∷ as') =
    let r = kept_values seen (k + 1) as' in
    let q = kept_values ((k, a) ∷ seen) (k + 1) as' in
    let skip = firsts same_spot seen (spots (k + 1) as') in
    let take = firsts same_spot ((k, a) ∷ seen) (spots (k + 1) as') in
    ap (λ b. map value_at (cond b skip ((k, a) ∷ take))) (among_values k a seen)
    ∙ elim (is_among a (map value_at seen)) as (λ b. map value_at (cond b skip ((k, a) ∷ take)) ≡ cond b (distinct_from (map value_at seen) as') (a ∷ distinct_from (a ∷ map value_at seen) as')) [ true ↦ r | false ↦ ap (λ l. a ∷ l) q ]

spots_rise : (j k : ℕ) (as' : List Atom) → j < k → Ascends spot_place j (spots k as')
spots_rise j k [] h = tt
spots_rise j k (a ∷ as') h = (h, spots_rise k (k + 1) as' (omega arith))

-- texts and untyped values, and others
abbrev is_text : Atom → Bool
is_text (TextAtom t) = true
is_text (UntypedAtom t) = true
is_text (IntAtom z) = false
is_text (BoolAtom b) = false

abbrev text_spot : Spot → Bool
text_spot x = is_text x.1

abbrev other_spot : Spot → Bool
other_spot x = not (is_text x.1)

text_same : (a b : Atom) → is_text a ≡ true → is_text b ≡ true → text_eq (text_of a) (text_of b) ≡ same_atom a b
text_same (TextAtom t) (TextAtom u) p q = refl
text_same (TextAtom t) (UntypedAtom u) p q = refl
text_same (TextAtom t) (IntAtom z) p q = cc
text_same (TextAtom t) (BoolAtom b) p q = cc
text_same (UntypedAtom t) (TextAtom u) p q = refl
text_same (UntypedAtom t) (UntypedAtom u) p q = refl
text_same (UntypedAtom t) (IntAtom z) p q = cc
text_same (UntypedAtom t) (BoolAtom b) p q = cc
text_same (IntAtom y) b p q = cc
text_same (BoolAtom a) b p q = cc

ints_same : (y z : ℤ) → int_eq y z ≡ not (int_lt y z || int_lt z y)
ints_same y z = at (int_lt y z) (int_lt z y)
  where
    at : (a b : Bool) → is_eq (cond a Less (cond b Greater Equal)) ≡ not (a || b)
    at true b = refl
    at false true = refl
    at false false = refl

other_same : (a b : Atom) → not (is_text a) ≡ true → not (is_text b) ≡ true → cell_eq (item_of_atom a) (item_of_atom b) ≡ same_atom a b
other_same (IntAtom y) (IntAtom z) p q = ints_same y z
other_same (IntAtom y) (BoolAtom b) p q = refl
other_same (IntAtom y) (TextAtom t) p q = cc
other_same (IntAtom y) (UntypedAtom t) p q = cc
other_same (BoolAtom true) (BoolAtom b) p q = bools b
  where
    bools : (b : Bool) → cell_eq (item_of_atom (BoolAtom true)) (item_of_atom (BoolAtom b)) ≡ same_atom (BoolAtom true) (BoolAtom b)
    bools true = refl
    bools false = refl
other_same (BoolAtom false) (BoolAtom b) p q = bools b
  where
    bools : (b : Bool) → cell_eq (item_of_atom (BoolAtom false)) (item_of_atom (BoolAtom b)) ≡ same_atom (BoolAtom false) (BoolAtom b)
    bools true = refl
    bools false = refl
other_same (BoolAtom a) (IntAtom z) p q = refl
other_same (BoolAtom a) (TextAtom t) p q = cc
other_same (BoolAtom a) (UntypedAtom t) p q = cc
other_same (TextAtom t) b p q = cc
other_same (UntypedAtom t) b p q = cc

-- no text equals another value
text_apart : (a b : Atom) → is_text a ≡ true → is_text b ≡ false → same_atom a b ≡ false
text_apart (TextAtom t) (IntAtom z) p q = refl
text_apart (TextAtom t) (BoolAtom b) p q = refl
text_apart (TextAtom t) (TextAtom u) p q = cc
text_apart (TextAtom t) (UntypedAtom u) p q = cc
text_apart (UntypedAtom t) (IntAtom z) p q = refl
text_apart (UntypedAtom t) (BoolAtom b) p q = refl
text_apart (UntypedAtom t) (TextAtom u) p q = cc
text_apart (UntypedAtom t) (UntypedAtom u) p q = cc
text_apart (IntAtom y) b p q = cc
text_apart (BoolAtom a) b p q = cc

other_apart : (a b : Atom) → not (is_text a) ≡ true → not (is_text b) ≡ false → same_atom a b ≡ false
other_apart (IntAtom y) (TextAtom t) p q = refl
other_apart (IntAtom y) (UntypedAtom t) p q = refl
other_apart (IntAtom y) (IntAtom z) p q = cc
other_apart (IntAtom y) (BoolAtom b) p q = cc
other_apart (BoolAtom a) (TextAtom t) p q = refl
other_apart (BoolAtom a) (UntypedAtom t) p q = refl
other_apart (BoolAtom a) (IntAtom z) p q = cc
other_apart (BoolAtom a) (BoolAtom b) p q = cc
other_apart (TextAtom t) b p q = cc
other_apart (UntypedAtom t) b p q = cc

-- rows of values, and those with their texts
abbrev plain : ℕ → Spot → Row
plain n x = num n ∷ num x.0 ∷ item_of_atom x.1 ∷ []

abbrev wide : ℕ → Spot → Row
wide n x = num n ∷ num x.0 ∷ item_of_atom x.1 ∷ num (char_count (text_of x.1)) ∷ TextItem (text_of x.1) ∷ []

abbrev with_length : Row → List Row
with_length r = map (λ v. r ++ v ∷ []) (given (bare.value f.StringLength (cells bare three (column 2 ∷ []) r)))

abbrev with_text : Row → List Row
with_text r = map (λ v. r ++ v ∷ []) (given (bare.value f.StringOf (cells bare four (column 2 ∷ []) r)))

abbrev no_length : Row → Bool
no_length r = is_code c.XPTY0004 (code_in (bare.value f.StringLength (cells bare three (column 2 ∷ []) r)))

texts_of : (n k : ℕ) (as' : List Atom) → flat_map with_text (flat_map with_length (item_rows n k (items_of as'))) ≡ map (wide n) (filter text_spot (spots k as'))
texts_of n k [] = refl
texts_of n k (TextAtom t ∷ as') = ap (λ l. wide n (k, TextAtom t) ∷ l) (texts_of n (k + 1) as')
texts_of n k (UntypedAtom t ∷ as') = ap (λ l. wide n (k, UntypedAtom t) ∷ l) (texts_of n (k + 1) as')
texts_of n k (IntAtom z ∷ as') = texts_of n (k + 1) as'
texts_of n k (BoolAtom b ∷ as') = texts_of n (k + 1) as'

others_of : (n k : ℕ) (as' : List Atom) → filter no_length (item_rows n k (items_of as')) ≡ map (plain n) (filter other_spot (spots k as'))
others_of n k [] = refl
others_of n k (TextAtom t ∷ as') = others_of n (k + 1) as'
others_of n k (UntypedAtom t ∷ as') = others_of n (k + 1) as'
others_of n k (IntAtom z ∷ as') =
    ap (λ b. cond b (plain n (k, IntAtom z) ∷ filter no_length (item_rows n (k + 1) (items_of as'))) (filter no_length (item_rows n (k + 1) (items_of as')))) (code_self c.XPTY0004) ∙ ap (λ l. plain n (k, IntAtom z) ∷ l) (others_of n (k + 1) as')
others_of n k (BoolAtom b' ∷ as') =
    ap (λ b. cond b (plain n (k, BoolAtom b') ∷ filter no_length (item_rows n (k + 1) (items_of as'))) (filter no_length (item_rows n (k + 1) (items_of as')))) (code_self c.XPTY0004) ∙ ap (λ l. plain n (k, BoolAtom b') ∷ l) (others_of n (k + 1) as')

-- rows are compared by iteration and text, or by iteration and value
abbrev same_text : Row → Row → Bool
same_text q r = all_same bare (cells bare five (column 0 ∷ column 4 ∷ []) q) (cells bare five (column 0 ∷ column 4 ∷ []) r)

abbrev same_value : Row → Row → Bool
same_value q r = all_same bare (cells bare three (column 0 ∷ column 2 ∷ []) q) (cells bare three (column 0 ∷ column 2 ∷ []) r)

wide_same : (n : ℕ) (x y : Spot) → text_spot x ≡ true → text_spot y ≡ true → same_text (wide n x) (wide n y) ≡ same_spot x y
wide_same n x y p q = ap (λ b. b && (text_eq (text_of x.1) (text_of y.1) && true)) (cell_eq_self (num n)) ∙ and-true (text_eq (text_of x.1) (text_of y.1)) ∙ text_same x.1 y.1 p q

plain_same : (n : ℕ) (x y : Spot) → other_spot x ≡ true → other_spot y ≡ true → same_value (plain n x) (plain n y) ≡ same_spot x y
plain_same n x y p q = ap (λ b. b && (cell_eq (item_of_atom x.1) (item_of_atom y.1) && true)) (cell_eq_self (num n)) ∙ and-true (cell_eq (item_of_atom x.1) (item_of_atom y.1)) ∙ other_same x.1 y.1 p q

-- rows of two iterations differ
apart_numbers : (n m : ℕ) (b : Bool) → n < m → (cell_eq (num m) (num n) && b) ≡ false
apart_numbers n m b h = ap (λ d. d && b) (num_same m n ∙ nat_eq_above n m h)

wide_apart : (n m : ℕ) (xs ys : List Spot) → n < m → AllOf (λ r. AllOf (λ q. same_text r q ≡ false) (map (wide n) xs)) (map (wide m) ys)
wide_apart n m xs ys h = all-map _ (wide m) ys (all_each _ (λ y. all-map _ (wide n) xs (all_each _ (λ x. apart_numbers n m (text_eq (text_of y.1) (text_of x.1) && true) h) xs)) ys)

plain_apart : (n m : ℕ) (xs ys : List Spot) → n < m → AllOf (λ r. AllOf (λ q. same_value r q ≡ false) (map (plain n) xs)) (map (plain m) ys)
plain_apart n m xs ys h = all-map _ (plain m) ys (all_each _ (λ y. all-map _ (plain n) xs (all_each _ (λ x. apart_numbers n m (cell_eq (item_of_atom y.1) (item_of_atom x.1) && true) h) xs)) ys)

-- in one iteration
first_texts_in : (n : ℕ) (as' : List Atom) → firsts same_text [] (map (wide n) (filter text_spot (spots 1 as'))) ≡ map (wide n) (filter text_spot (kept as'))
first_texts_in n as' =
    firsts_map same_spot same_text (wide n) (λ x. text_spot x ≡ true) (wide_same n) [] (filter text_spot (spots 1 as')) tt (kept_pass text_spot (spots 1 as'))
    ∙ ap (map (wide n)) (sym (firsts_class same_spot text_spot (λ x y p q. text_apart x.1 y.1 p q) [] (spots 1 as')))

first_others_in : (n : ℕ) (as' : List Atom) → firsts same_value [] (map (plain n) (filter other_spot (spots 1 as'))) ≡ map (plain n) (filter other_spot (kept as'))
first_others_in n as' =
    firsts_map same_spot same_value (plain n) (λ x. other_spot x ≡ true) (plain_same n) [] (filter other_spot (spots 1 as')) tt (kept_pass other_spot (spots 1 as'))
    ∙ ap (map (plain n)) (sym (firsts_class same_spot other_spot (λ x y p q. other_apart x.1 y.1 p q) [] (spots 1 as')))

-- both classes are all
both_classes : (n : ℕ) (xs : List Spot) → Same (map (plain n) (filter text_spot xs) ++ map (plain n) (filter other_spot xs)) (map (plain n) xs)
both_classes n xs = record { at = λ w. total-append w (map (plain n) (filter text_spot xs)) (map (plain n) (filter other_spot xs)) ∙ go w xs }
  where
    go : (w : Row → ℕ) (ys : List Spot) → total w (map (plain n) (filter text_spot ys)) + total w (map (plain n) (filter other_spot ys)) ≡ total w (map (plain n) ys)
    go w [] = refl
    go w (y ∷ ys) =
        let r = go w ys in
        elim (is_text y.1) as (λ b. total w (map (plain n) (cond b (y ∷ filter text_spot ys) (filter text_spot ys))) + total w (map (plain n) (cond (not b) (y ∷ filter other_spot ys) (filter other_spot ys))) ≡ w (plain n y) + total w (map (plain n) ys)) [
          | true ↦ omega arith
          | false ↦ omega arith
        ]

abbrev at_place : Spot → ℕ × Cell
at_place x = (x.0, item_of_atom x.1)

placed_spots : (n : ℕ) (xs : List Spot) → map (plain n) xs ≡ placed n (map at_place xs)
placed_spots n [] = refl
placed_spots n (x ∷ xs) = ap (λ l. plain n x ∷ l) (placed_spots n xs)

places_rise : (j : ℕ) (xs : List Spot) → Ascends spot_place j xs → Ascends place j (map at_place xs)
places_rise j [] a = tt
places_rise j (x ∷ xs) a = (a.0, places_rise x.0 xs a.1)

spot_items : (xs : List Spot) → items_in (map at_place xs) ≡ items_of (map value_at xs)
spot_items [] = refl
spot_items (x ∷ xs) = ap (λ l. item_of_atom x.1 ∷ l) (spot_items xs)

module _ (g : Iter → List Atom) (its : List Iter) (asc : Ascends (λ i. i.number) 0 its) where
  abbrev whole : List Row
  whole = value_rows (λ i. items_of (g i)) its

  abbrev out : Row → Row
  out r = pick five (pair 0 0 ∷ pair 1 1 ∷ pair 2 2 ∷ []) r

  texts_there : texts_beside whole ≡ flat_map (λ i. map (wide i.number) (filter text_spot (spots 1 (g i)))) its
  texts_there =
      ap (flat_map with_text) (flat-flat with_length (λ i. item_rows i.number 1 (items_of (g i))) its)
      ∙ flat-flat with_text (λ i. flat_map with_length (item_rows i.number 1 (items_of (g i)))) its
      ∙ flat-all _ _ its (all_each _ (λ i. texts_of i.number 1 (g i)) its)

  first_texts_are : first_texts whole ≡ flat_map (λ i. map (plain i.number) (filter text_spot (kept (g i)))) its
  first_texts_are =
      ap (λ l. map out (firsts same_text [] l)) texts_there
      ∙ ap (map out) (firsts_blocks same_text (λ i. i.number) (λ i. map (wide i.number) (filter text_spot (spots 1 (g i)))) (λ x y h. wide_apart x.number y.number (filter text_spot (spots 1 (g x))) (filter text_spot (spots 1 (g y))) h) 0 its asc
      ∙ flat-all _ _ its (all_each _ (λ i. first_texts_in i.number (g i)) its))
      ∙ map-flat out (λ i. map (wide i.number) (filter text_spot (kept (g i)))) its
      ∙ flat-all _ _ its (all_each _ (λ i. map-map out (wide i.number) (filter text_spot (kept (g i)))) its)

  first_others_are : first_others whole ≡ flat_map (λ i. map (plain i.number) (filter other_spot (kept (g i)))) its
  first_others_are =
      ap (firsts same_value []) (keep_flat no_length (λ i. item_rows i.number 1 (items_of (g i))) its ∙ flat-all _ _ its (all_each _ (λ i. others_of i.number 1 (g i)) its))
      ∙ firsts_blocks same_value (λ i. i.number) (λ i. map (plain i.number) (filter other_spot (spots 1 (g i)))) (λ x y h. plain_apart x.number y.number (filter other_spot (spots 1 (g x))) (filter other_spot (spots 1 (g y))) h) 0 its asc
      ∙ flat-all _ _ its (all_each _ (λ i. first_others_in i.number (g i)) its)

  abbrev as_three : Row → Row
  as_three r = cells bare three three r

  others_again : map as_three (first_others whole) ≡ flat_map (λ i. map (plain i.number) (filter other_spot (kept (g i)))) its
  others_again =
      ap (map as_three) first_others_are
      ∙ map-flat as_three (λ i. map (plain i.number) (filter other_spot (kept (g i)))) its
      ∙ flat-all _ _ its (all_each _ (λ i. map-map as_three (plain i.number) (filter other_spot (kept (g i)))) its)

  abbrev kept_at : Iter → AtPlaces
  kept_at i = map at_place (kept (g i))

  both_there : Same (beside three (first_texts whole) (first_others whole)) (flat_map (λ i. placed i.number (map at_place (kept (g i)))) its)
  both_there =
      same-trans (same-of (ap (λ l. l ++ map as_three (first_others whole)) first_texts_are ∙ ap (λ l. flat_map (λ i. map (plain i.number) (filter text_spot (kept (g i)))) its ++ l) others_again))
      (same-trans (same-split (λ i. map (plain i.number) (filter text_spot (kept (g i)))) (λ i. map (plain i.number) (filter other_spot (kept (g i)))) its)
      (record {
        at = λ w.
            total-flat w (λ i. map (plain i.number) (filter text_spot (kept (g i))) ++ map (plain i.number) (filter other_spot (kept (g i)))) its
            ∙ total-ext _ _ its (λ i. (both_classes i.number (kept (g i))).at w ∙ ap (total w) (placed_spots i.number (kept (g i))))
            ∙ sym (total-flat w (λ i. placed i.number (map at_place (kept (g i)))) its);
      }))

  first_values_stand : Same (first_values whole) (value_rows (λ i. items_of (distinct (g i))) its)
  first_values_stand =
      same-trans (renumber_stands kept_at its _ asc (λ i. places_rise 0 (kept (g i)) (firsts_ascend same_spot spot_place 0 [] (spots 1 (g i)) (spots_rise 0 1 (g i) (omega arith)))) both_there)
      (same-of (flat-all _ _ its (all_each _ (λ i. ap (item_rows i.number 1) (spot_items (kept (g i)) ∙ ap items_of (kept_values [] 1 (g i)))) its)))

module _ (its : List Iter) (h : Iter → List Cell) (a : List Row) (asc : Ascends (λ i. i.number) 0 its) (sa : Same a (value_rows h its)) where
  abbrev atoms : Iter → List Atom
  atoms i = data_of (h i)

  data_there : Same (data_rows a) (value_rows (λ i. items_of (data_of (h i))) its)
  data_there = same-trans (data_stands h its a sa) (same-of (flat-all _ _ its (all_each _ (λ i. ap (item_rows i.number 1) (sym (map-map item_of_atom atomized (h i)))) its)))

  distinct_stands : Same (distinct_rows a) (value_rows (λ i. items_of (distinct (data_of (h i)))) its)
  distinct_stands =
      same-trans (record { at = λ w. (sorted_like (λ i. items_of (data_of (h i))) its (data_rows a) asc data_there).at (λ rs. total w (first_values rs)) }) (first_values_stand atoms its asc)

  few_kept : (seen as' : List Atom) → length (distinct_from seen as') ≤ length as'
  few_kept seen [] = omega arith
  few_kept seen (b ∷ as') =
      let r = few_kept seen as' in
      let q = few_kept (b ∷ seen) as' in
      elim (is_among b seen) as (λ d. length (cond d (distinct_from seen as') (b ∷ distinct_from (b ∷ seen) as')) ≤ length (b ∷ as')) [ true ↦ omega arith | false ↦ omega arith ]

  distinct_few : distinct_most a ≤ length a
  distinct_few =
      let x = (sorted_like (λ i. items_of (data_of (h i))) its (data_rows a) asc data_there).at length ∙ size_cells (λ i. items_of (data_of (h i))) its in
      let x' = total_most (λ i. length (items_of (data_of (h i)))) (λ i. length (h i)) its (λ i. let p = map_length item_of_atom (data_of (h i)) in let q = map_length atomized (h i) in omega arith) in
      let y = same-length distinct_stands ∙ size_cells (λ i. items_of (distinct (data_of (h i)))) its in
      let y' = total_most (λ i. length (items_of (distinct (data_of (h i))))) (λ i. length (h i)) its
      (λ i. let p = map_length item_of_atom (distinct (data_of (h i))) in let q = map_length atomized (h i) in let r = few_kept [] (data_of (h i)) in omega arith) in
      let z = same-length sa ∙ size_cells h its in
      let s : length (sorted_rows (data_rows a)) ≤ length a = omega arith in
      let t : length (distinct_rows a) ≤ length a = omega arith in
      let o : length a ≤ length a = omega arith in
      max-le o (max-le s t)

module _ (docs : Docs) {s s' : State} (site : Site) (looped a t : OpId) (m : Makes s s' t three (distinct_rows (at s a).rows) (distinct_most (at s a).rows)) where
  few : (N : ℕ) (its : List Iter) (gs : List (Iter → List Cell)) → Ascends (λ i. i.number) 0 its → Holds s looped single (loop_rows its) → HoldAll s (a ∷ []) gs its → call_cost docs site (Apply f.DistinctValues) gs its ≤ N → distinct_most (at s a).rows ≤ N
  few N its [] asc hl hp enough = absurd hp
  few N its (h ∷ []) asc hl hp enough =
      let q = args_few docs s site (Apply f.DistinctValues) looped (a ∷ []) N its (h ∷ []) hl hp enough in
      let p = distinct_few its h (at s a).rows asc hp.0.rows_are in
      omega arith
  few N its (h ∷ k ∷ gs) asc hl hp enough = absurd hp.1

  calm : (gs : List (Iter → List Cell)) (its : List Iter) → HoldAll s (a ∷ []) gs its → AllOf (λ i. fault_in (call_answer docs site (Apply f.DistinctValues) gs i) ≡ None) its
  calm [] its hp = absurd hp
  calm (h ∷ []) its hp = all_each _ (λ i. refl) its
  calm (h ∷ k ∷ gs) its hp = absurd hp.1

  stand : (its : List Iter) (gs : List (Iter → List Cell)) → Ascends (λ i. i.number) 0 its → Holds s looped single (loop_rows its) → HoldAll s (a ∷ []) gs its → Same (distinct_rows (at s a).rows) (value_rows (λ i. list_of (value_in (call_answer docs site (Apply f.DistinctValues) gs i))) its)
  stand its [] asc hl hp = absurd hp
  stand its (h ∷ []) asc hl hp = distinct_stands its h _ asc hp.0.rows_are
  stand its (h ∷ k ∷ gs) asc hl hp = absurd hp.1

  pub distinct_call : CallLifts docs s s' site (Apply f.DistinctValues) looped (a ∷ []) t
  distinct_call = quiet_call docs site (Apply f.DistinctValues) looped (a ∷ []) t _ _ m refl few calm stand
