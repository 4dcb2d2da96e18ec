-- Calls of `subsequence` of a start and a length, from the rows of their operators: of the items from the start on, as many as a
-- part of a text has characters.
use Rattle.std.proofs.Common.{◌≡◌, ℕ, ◌+◌, ◌<◌, ◌≤◌, Bool, true, false, cond, not, ◌&&◌, ◌||◌, List, [], ◌∷◌, ◌++◌, length, length-append, map, refl, sym, ap, ◌∙◌, arith, zero-add, Some, None, nat_lt, nat_le, ℤ, pos, ◌+ℤ◌, int_le, int_lt}
use Rattle.std.specs.List.{filter}
use Rattle.std.proofs.Math.Nat.{max-le}
use Rattle.std.proofs.lemmas.Bool.{le-leb, lt-ltb, ltb-true}
use Rattle.xq_base.specs.declared.fun.Fun.TheVariants as f
use Rattle.xq_base.specs.declared.fun.CompOp.TheVariants as o
use Rattle.xq_base.specs.Answers.{Answer, Value, Fault as Refused, with_value, both_of}
use Rattle.xq_base.specs.Texts.{Text}
use Rattle.xq_base.specs.Words.{char_count, is_selected, at_places, text_part}
use Rattle.xq_base.specs.Comparisons.{int_eq, decided}
use Rattle.xq_base.specs.TextRules.{one_number}
use Rattle.doc_table.specs.Items.{TextItem}
use Rattle.doc_table.specs.Values.{Items, items_of, data_of}
use Rattle.doc_table.specs.NodeRules.{Docs}
use Rattle.plan_dag.specs.declared.op.Agg.TheVariants as g
use Rattle.plan_dag.specs.declared.op.OpId.{OpId}
use Rattle.plan_dag.specs.declared.check.Check.{Check}
use Rattle.plan_dag.specs.ItemRules.{Cell}
use Rattle.core_meaning.specs.Expr.{Site, Apply}
use Rattle.core_meaning.specs.Meaning.{value_in}
use Rattle.lift_laws.specs.Sums.{AllOf, Ascends, Same}
use Rattle.lift_laws.specs.Iterations.{Row, Iter, num, item_rows, value_rows, loop_rows}
use Rattle.lift_laws.specs.Bulk.{list_of}
use Rattle.lift_laws.specs.States.{State, at, Makes, three}
use Rattle.lift_laws.specs.Shapes.{restrict_rows}
use Rattle.lift_laws.specs.Stages.{Stages}
use Rattle.lift_laws.specs.Pairs.{side_rows}
use Rattle.lift_laws.specs.Aggregates.{sorted_rows, grouped_by}
use Rattle.lift_laws.specs.Readings.{MaybeText, OneNumber, Operand}
use Rattle.lift_laws.specs.TextParts.{Parts, text_rows, trio_rows}
use Rattle.lift_laws.specs.Places.{OfPlaces}
use Rattle.lift_laws.specs.Slices.{tally_mark, tally_rows, tallied_rows, slice_marks, slice_loop, many_rows, rest_rows, slice_rows, slice_most}
use Rattle.lift_laws.specs.Lifting.{CallLifts, call_answer}
use Rattle.lift_laws.proofs.Numbers.{nat_lt_above}
use Rattle.lift_laws.proofs.Multi.{same-of, same-trans, same-length, length-total}
use Rattle.lift_laws.proofs.Picks.{all_each, all_mono, flat-all}
use Rattle.lift_laws.proofs.Sizes.{map_length, size_cells, size_loop, total_most}
use Rattle.lift_laws.proofs.Marks.{fault_in}
use Rattle.lift_laws.proofs.Cleared.{none_of, AllMark}
use Rattle.lift_laws.proofs.Staged.{op_sizes}
use Rattle.lift_laws.proofs.Stagings.{first_coded, first_mark, marked_rows, stages_call}
use Rattle.lift_laws.proofs.PairRows.{few_sided_left}
use Rattle.lift_laws.proofs.Arguments.{of_three}
use Rattle.lift_laws.proofs.AggregateCase.{sorted_few, grouped_few}
use Rattle.lift_laws.proofs.ReadingCase.{read_as, operand_tests, operands_ranked, operands_dynamic, calm_stands, none_first, with_fault, calm, calm_none, Single, number_single, both_calm, where_calm}
use Rattle.lift_laws.proofs.PartCase.{long_part, trio_marked, trio_fault, trio_stands, trio_few}
use Rattle.lift_laws.proofs.Renumber.{items_in}
use Rattle.lift_laws.proofs.PlaceRows.{chosen_in, passing_stand, few_beside, few_passing}
use Rattle.lift_laws.proofs.PlaceCase.{PlaceIn, place_in, kept_items, same_places, not_less}
use Rattle.lift_laws.proofs.InsertCase.{behind, kept_behind, behind_is, less_above}
use Rattle.lift_laws.proofs.Tally.{crosses, part_count, tallies, tallied, tallied_text, tallied_few, tally_stands, tallied_stands, lengths_stand}

-- the items from a start on, as many as are selected
abbrev selected : ℤ → ℤ → ℕ → Items → Items
selected z c n us = at_places (is_selected z (Some c)) n us

abbrev up_to : ℕ → ℕ → Bool
up_to m p = nat_le p m

none_up_to : (m n : ℕ) (us : Items) → m < n → at_places (up_to m) n us ≡ []
none_up_to m n [] h = refl
none_up_to m n (u ∷ us) h = ap (λ b. cond b (u ∷ at_places (up_to m) (n + 1) us) (at_places (up_to m) (n + 1) us)) (sym (not_less (pos n) m) ∙ ap not (lt-ltb m n h)) ∙ none_up_to m (n + 1) us (omega arith)

none_selected : (z c : ℤ) (n : ℕ) (us : Items) → int_lt (pos n) (z +ℤ c) ≡ false → selected z c n us ≡ []
none_selected z c n [] e = refl
none_selected z c n (u ∷ us) e =
    ap (λ b. cond (int_le z (pos n) && b) (u ∷ selected z c (n + 1) us) (selected z c (n + 1) us)) e
    ∙ never (int_le z (pos n)) ∙ none_selected z c (n + 1) us (less_above (z +ℤ c) n (n + 1) (omega arith) e)
  where
    never : (b : Bool) → cond (b && false) (u ∷ selected z c (n + 1) us) (selected z c (n + 1) us) ≡ selected z c (n + 1) us
    never true = refl
    never false = refl

front_selected : (z c : ℤ) (n m : ℕ) (us : Items) → at_places (up_to (m + length (selected z c n us))) (m + 1) (behind z n us) ≡ selected z c n us
front_selected z c n m [] = refl
front_selected z c n m (u ∷ us) = go (int_lt (pos n) z) refl (int_lt (pos n) (z +ℤ c)) refl (front_selected z c (n + 1) m us) (front_selected z c (n + 1) (m + 1) us)
  where
    go : (x : Bool) → int_lt (pos n) z ≡ x → (y : Bool) → int_lt (pos n) (z +ℤ c) ≡ y
        → at_places (up_to (m + length (selected z c (n + 1) us))) (m + 1) (behind z (n + 1) us) ≡ selected z c (n + 1) us
        → at_places (up_to (m + 1 + length (selected z c (n + 1) us))) (m + 1 + 1) (behind z (n + 1) us) ≡ selected z c (n + 1) us
        → at_places (up_to (m + length (selected z c n (u ∷ us)))) (m + 1) (behind z n (u ∷ us)) ≡ selected z c n (u ∷ us)
    go true e y d skip take =
        let s : selected z c n (u ∷ us) ≡ selected z c (n + 1) us = ap (λ b. cond (b && int_lt (pos n) (z +ℤ c)) (u ∷ selected z c (n + 1) us) (selected z c (n + 1) us)) (sym (not_less z n) ∙ ap not e) in
        let b : behind z n (u ∷ us) ≡ behind z (n + 1) us = ap (λ x. cond (not x) (u ∷ behind z (n + 1) us) (behind z (n + 1) us)) e in
        ap (λ l. at_places (up_to (m + length l)) (m + 1) (behind z n (u ∷ us))) s ∙ ap (λ l. at_places (up_to (m + length (selected z c (n + 1) us))) (m + 1) l) b ∙ skip ∙ sym s
    go false e true d skip take =
        let left = selected z c (n + 1) us in
        let s : selected z c n (u ∷ us) ≡ u ∷ left =
        ap (λ b. cond (b && int_lt (pos n) (z +ℤ c)) (u ∷ left) left) (sym (not_less z n) ∙ ap not e) ∙ ap (λ b. cond b (u ∷ left) left) d in
        let b : behind z n (u ∷ us) ≡ u ∷ behind z (n + 1) us = ap (λ x. cond (not x) (u ∷ behind z (n + 1) us) (behind z (n + 1) us)) e in
        let k : m + length (u ∷ left) ≡ m + 1 + length left = omega arith in
        ap (λ l. at_places (up_to (m + length l)) (m + 1) (behind z n (u ∷ us))) s ∙ ap (λ l. at_places (up_to (m + length (u ∷ left))) (m + 1) l) b
        ∙ ap (λ j. at_places (up_to j) (m + 1) (u ∷ behind z (n + 1) us)) k
        ∙ ap (λ x. cond x (u ∷ at_places (up_to (m + 1 + length left)) (m + 1 + 1) (behind z (n + 1) us)) (at_places (up_to (m + 1 + length left)) (m + 1 + 1) (behind z (n + 1) us))) (le-leb (m + 1) (m + 1 + length left) (omega arith))
        ∙ ap (λ l. u ∷ l) take ∙ sym s
    go false e false d skip take =
        let s = none_selected z c n (u ∷ us) d in
        let k : m + length {A = Cell} [] ≡ m = omega arith in
        ap (λ l. at_places (up_to (m + length l)) (m + 1) (behind z n (u ∷ us))) s ∙ ap (λ j. at_places (up_to j) (m + 1) (behind z n (u ∷ us))) k
        ∙ none_up_to m (m + 1) (behind z n (u ∷ us)) (omega arith) ∙ sym s

-- a comparison of numbers
less_or_equal : (p m : ℕ) → decided o.Le (int_eq (pos p) (pos m)) (int_lt (pos p) (pos m)) ≡ up_to m p
less_or_equal p m = at (nat_lt p m) refl ∙ not_less (pos p) m
  where
    other : (y : Bool) → (false || not (false || y)) ≡ not y
    other true = refl
    other false = refl

    at : (x : Bool) → nat_lt p m ≡ x → (nat_lt p m || not (nat_lt p m || nat_lt m p)) ≡ not (nat_lt m p)
    at true e = ap (λ b. b || not (b || nat_lt m p)) e ∙ sym (ap not (nat_lt_above p m (ltb-true p m e)))
    at false e = ap (λ b. b || not (b || nat_lt m p)) e ∙ other (nat_lt m p)

-- what is read of the text, the start and the length
abbrev Asked : Type 0
Asked = (Text × ℤ) × ℤ

abbrev read_all : Items → Items → Items → Answer Asked
read_all us vs ws = both_of (both_of (read_as MaybeText (tallied us)) (read_as OneNumber vs)) (read_as OneNumber ws)

abbrev slice_answer : Items → Items → Items → Answer Items
slice_answer us vs ws = with_value (λ (p : ℤ × ℤ). at_places (is_selected p.0 (Some p.1)) 1 us) (both_of (one_number (data_of vs)) (one_number (data_of ws)))

abbrev text_answer : Items → Items → Items → Answer Items
text_answer us vs ws = with_value items_of (with_value long_part (read_all us vs ws))

text_known : (t : Text) (x y : Answer ℤ) → fault_in (both_of (both_of (Value t) x) y) ≡ fault_in (both_of x y)
text_known t (Value z) (Value c) = refl
text_known t (Value z) (Refused d) = refl
text_known t (Refused d) (Value c) = refl
text_known t (Refused d) (Refused e) = refl

same_fault : (us vs ws : Items) → fault_in (slice_answer us vs ws) ≡ fault_in (text_answer us vs ws)
same_fault us vs ws =
    with_fault _ (both_of (one_number (data_of vs)) (one_number (data_of ws)))
    ∙ sym (text_known (crosses us) (one_number (data_of vs)) (one_number (data_of ws)))
    ∙ ap (λ x. fault_in (both_of (both_of x (one_number (data_of vs))) (one_number (data_of ws)))) (sym (tallied_text us))
    ∙ sym (with_fault items_of (with_value long_part (read_all us vs ws)) ∙ with_fault long_part (read_all us vs ws))

-- the part of the text, and how many characters it has
abbrev parts_found : Answer Asked → List Text
parts_found (Value p) = text_part p.0.0 p.0.1 (Some p.1) ∷ []
parts_found (Refused d) = []

parts_shown : (x : Answer Asked) → list_of (value_in (with_value items_of (with_value long_part x))) ≡ map TextItem (parts_found x)
parts_shown (Value p) = refl
parts_shown (Refused d) = refl

abbrev many : Items → Items → Items → Items
many us vs ws = map (λ t. num (char_count t)) (parts_found (read_all us vs ws))

many_few : (x : Answer Asked) → length (map (λ t. num (char_count t)) (parts_found x)) ≤ 1
many_few (Value p) = omega arith
many_few (Refused d) = omega arith

-- a start and a length
pub record SliceIn (us vs ws : Items) : Type 0 where
  pub start : PlaceIn vs
  pub size : PlaceIn ws
  pub many_is : many us vs ws ≡ num (length (selected start.number size.number 1 us)) ∷ []
  pub value_is : list_of (value_in (slice_answer us vs ws)) ≡ selected start.number size.number 1 us

pub slice_in : (us vs ws : Items) → fault_in (slice_answer us vs ws) ≡ None → SliceIn us vs ws
slice_in us vs ws e =
    let k = both_calm (one_number (data_of vs)) (one_number (data_of ws)) (sym (with_fault (λ (p : ℤ × ℤ). at_places (is_selected p.0 (Some p.1)) 1 us) (both_of (one_number (data_of vs)) (one_number (data_of ws)))) ∙ e) in
    let s = place_in vs k.0 in
    let c = place_in ws k.1 in
    let M = λ (x : Answer Text) (y w : Answer ℤ). map (λ t. num (char_count t)) (parts_found (both_of (both_of x y) w)) in
    let V = λ (y w : Answer ℤ). list_of (value_in (with_value (λ (p : ℤ × ℤ). at_places (is_selected p.0 (Some p.1)) 1 us) (both_of y w))) in
    record {
      start = s;
      size = c;
      many_is =
          ap (λ x. M x (one_number (data_of vs)) (one_number (data_of ws))) (tallied_text us) ∙ ap (λ y. M (Value (crosses us)) y (one_number (data_of ws))) s.asked_is ∙ ap (M (Value (crosses us)) (Value s.number)) c.asked_is
          ∙ ap (λ j. num j ∷ []) (part_count s.number c.number us);
      value_is = ap (λ y. V y (one_number (data_of ws))) s.asked_is ∙ ap (V (Value s.number)) c.asked_is;
    }

-- so many of the items from the start on
abbrev kept_first : Items → Items → Items
kept_first ms us = items_in (chosen_in OfPlaces f.GeneralLe ms us)

first_is : (m : ℕ) (us : Items) → kept_first (num m ∷ []) us ≡ at_places (up_to m) 1 us
first_is m us =
    kept_items o.Le f.GeneralLe (λ w n v. refl) us (num m ∷ []) (record { only = (num m, refl); number = pos m; number_is = refl; asked_is = refl })
    ∙ same_places _ (up_to m) (λ p. less_or_equal p m) 1 us

pub slice_value : (us vs ws : Items) (s : SliceIn us vs ws) → kept_first (many us vs ws) (kept_behind vs us) ≡ list_of (value_in (slice_answer us vs ws))
slice_value us vs ws s =
    let left = selected s.start.number s.size.number 1 us in
    ap (λ x. kept_first x (kept_behind vs us)) s.many_is ∙ ap (kept_first (num (length left) ∷ [])) (behind_is us vs s.start)
    ∙ first_is (length left) (behind s.start.number 1 us)
    ∙ ap (λ j. at_places (up_to j) 1 (behind s.start.number 1 us)) (sym (zero-add (length left)))
    ∙ front_selected s.start.number s.size.number 1 0 us ∙ sym s.value_is

-- the tables whose sizes are told
abbrev slice_tables : List Row → List Row → List Row → List Row → List (List Row)
slice_tables l a b d =
    sorted_rows (tally_rows a) ∷ grouped_by g.Concat l (sorted_rows (tally_rows a)) ∷ (l ++ (tallied_rows l a ++ d))
    ∷ text_rows l (tallied_rows l a) ∷ restrict_rows (slice_loop l a b d) (text_rows l (tallied_rows l a)) ∷ side_rows (slice_loop l a b d) (text_rows l (tallied_rows l a)) b ∷ trio_rows Parts l (tallied_rows l a) b d
    ∷ restrict_rows (slice_loop l a b d) a ∷ side_rows (slice_loop l a b d) a b ∷ rest_rows l a b d ∷ many_rows l a b d ∷ restrict_rows (slice_loop l a b d) (rest_rows l a b d)
    ∷ side_rows (slice_loop l a b d) (rest_rows l a b d) (many_rows l a b d) ∷ []

abbrev operands : List Row → List Row → List Row → List Operand
operands t b d = (MaybeText, t) ∷ (OneNumber, b) ∷ (OneNumber, d) ∷ []

module _ (its : List Iter) (h k j : Iter → List Cell) (l a b d : List Row) (asc : Ascends (λ i. i.number) 0 its) (sl : Same l (loop_rows its)) (sa : Same a (value_rows h its)) (sb : Same b (value_rows k its)) (sd : Same d (value_rows j its)) where
  abbrev text_at : Iter → List Cell
  text_at i = tallied (h i)

  texts_there : Same (tallied_rows l a) (value_rows text_at its)
  texts_there = tallied_stands h its l a asc sl sa

  slice_marked : AllMark (marked_rows (slice_marks l a b d)) (operand_tests (operands (tallied_rows l a) b d) (text_at ∷ k ∷ j ∷ [])) its
  slice_marked = trio_marked f.Substring OneNumber OneNumber number_single number_single long_part (λ p. tt) (λ u v w. refl) its text_at k j l (tallied_rows l a) b d asc sl texts_there sb sd

  slice_fault : (i : Iter) → fault_in (slice_answer (h i) (k i) (j i)) ≡ first_coded (map first_mark (slice_marks l a b d)) (operand_tests (operands (tallied_rows l a) b d) (text_at ∷ k ∷ j ∷ [])) i
  slice_fault i =
      same_fault (h i) (k i) (j i)
      ∙ trio_fault f.Substring OneNumber OneNumber number_single number_single long_part (λ p. tt) (λ u v w. refl) its text_at k j l (tallied_rows l a) b d asc sl texts_there sb sd i

  abbrev sliced : Iter → Bool
  sliced i = none_of (operand_tests (operands (tallied_rows l a) b d) (text_at ∷ k ∷ j ∷ [])) i

  sliced_is : (i : Iter) → sliced i ≡ calm (fault_in (slice_answer (h i) (k i) (j i)))
  sliced_is i = none_first (slice_marks l a b d) (operand_tests (operands (tallied_rows l a) b d) (text_at ∷ k ∷ j ∷ [])) its i slice_marked ∙ ap calm (sym (slice_fault i))

  slice_there : (i : Iter) → sliced i ≡ true → SliceIn (h i) (k i) (j i)
  slice_there i e = slice_in (h i) (k i) (j i) (calm_none (fault_in (slice_answer (h i) (k i) (j i))) (sym (sliced_is i) ∙ e))

  loop_there : Same (slice_loop l a b d) (loop_rows (filter sliced its))
  loop_there = calm_stands its l asc sl (slice_marks l a b d) (operand_tests (operands (tallied_rows l a) b d) (text_at ∷ k ∷ j ∷ [])) slice_marked

  one_start : (i : Iter) → sliced i ≡ true → Single (k i)
  one_start i e = (slice_there i e).start.only

  one_many : (i : Iter) → sliced i ≡ true → Single (many (h i) (k i) (j i))
  one_many i e = let s = slice_there i e in (num (length (selected s.start.number s.size.number 1 (h i))), s.many_is)

  abbrev many_at : Iter → List Cell
  many_at i = many (h i) (k i) (j i)

  abbrev rest_at : Iter → List Cell
  rest_at i = items_in (cond (sliced i) (chosen_in OfPlaces f.GeneralGe (k i) (h i)) [])

  many_there : Same (many_rows l a b d) (value_rows many_at its)
  many_there =
      lengths_stand (λ i. parts_found (read_all (h i) (k i) (j i))) its _
      (same-trans (trio_stands f.Substring OneNumber OneNumber number_single number_single long_part (λ p. tt) (λ u v w. refl) its text_at k j l (tallied_rows l a) b d asc sl texts_there sb sd)
      (same-of (flat-all _ _ its (all_each _ (λ i. ap (item_rows i.number 1) (parts_shown (read_all (h i) (k i) (j i)))) its))))

  rest_there : Same (rest_rows l a b d) (value_rows rest_at its)
  rest_there = passing_stand sliced h k its (slice_loop l a b d) a b asc loop_there sa sb one_start OfPlaces f.GeneralGe

  slice_stands : Same (slice_rows l a b d) (value_rows (λ i. list_of (value_in (slice_answer (h i) (k i) (j i)))) its)
  slice_stands =
      same-trans (passing_stand sliced rest_at many_at its (slice_loop l a b d) (rest_rows l a b d) (many_rows l a b d) asc loop_there rest_there many_there one_many OfPlaces f.GeneralLe)
      (same-of (flat-all _ _ its (all_each _ (λ i.
      ap (item_rows i.number 1) (told_if (sliced i) i
      ∙ where_calm (slice_answer (h i) (k i) (j i)) (sliced i) (kept_first (many_at i) (kept_behind (k i) (h i))) (sliced_is i) (λ e. slice_value (h i) (k i) (j i) (slice_in (h i) (k i) (j i) e)))) its)))
    where
      told_if : (x : Bool) (i : Iter) → items_in (cond x (chosen_in OfPlaces f.GeneralLe (many_at i) (items_in (cond x (chosen_in OfPlaces f.GeneralGe (k i) (h i)) []))) []) ≡ cond x (kept_first (many_at i) (kept_behind (k i) (h i))) []
      told_if true i = refl
      told_if false i = refl

  texts_few : length (tallied_rows l a) ≤ length a
  texts_few =
      let x = same-length texts_there ∙ size_cells text_at its in
      let y = total_most (λ i. length (text_at i)) (λ i. length (h i)) its (λ i. tallied_few (h i)) in
      let z = same-length sa ∙ size_cells h its in
      omega arith

  many_most : length (many_rows l a b d) ≤ length l
  many_most =
      let x = same-length many_there ∙ size_cells many_at its in
      let y = total_most (λ i. length (many_at i)) (λ i. 1) its (λ i. many_few (read_all (h i) (k i) (j i))) in
      let u = length-total its in
      let n = same-length sl ∙ size_loop its in
      omega arith

  rest_few : length (rest_rows l a b d) ≤ length a
  rest_few = few_passing sliced h k its (slice_loop l a b d) a b asc loop_there sa sb one_start OfPlaces f.GeneralGe

  slice_few : AllOf (λ (z : List Row). length z ≤ length l + length a + length b + length d) (slice_tables l a b d)
  slice_few =
      let tally = tally_stands h its l a asc sl sa in
      let n = same-length sl ∙ size_loop its in
      let u = length-total its in
      let s = sorted_few g.Concat (λ i. tallies (h i)) its l (tally_rows a) asc sl tally in
      let s' = same-length tally ∙ size_cells (λ i. tallies (h i)) its in
      let s'' = total_most (λ i. length (tallies (h i))) (λ i. length (h i)) its (λ i. same_length (h i)) in
      let z = same-length sa ∙ size_cells h its in
      let q = grouped_few g.Concat (λ i. tallies (h i)) its l (tally_rows a) asc sl tally in
      let w = trio_few f.Substring OneNumber OneNumber number_single number_single long_part (λ p. tt) (λ u v w. refl) its text_at k j l (tallied_rows l a) b d asc sl texts_there sb sd in
      let w0 = w.0 in
      let w1 = w.1.0 in
      let w2 = w.1.1.0 in
      let w3 = w.1.1.1.0 in
      let t = texts_few in
      let v = length-append l (tallied_rows l a ++ d) in
      let v' = length-append (tallied_rows l a) d in
      let o = many_most in
      let x = few_sided_left sliced h k its (slice_loop l a b d) a b asc loop_there sa sb in
      let y = few_beside sliced h k its (slice_loop l a b d) a b asc loop_there sa sb one_start in
      let r = rest_few in
      let x' = few_sided_left sliced rest_at many_at its (slice_loop l a b d) (rest_rows l a b d) (many_rows l a b d) asc loop_there rest_there many_there in
      let y' = few_beside sliced rest_at many_at its (slice_loop l a b d) (rest_rows l a b d) (many_rows l a b d) asc loop_there rest_there many_there one_many in
      (omega arith, (omega arith, (omega arith, (omega arith, (omega arith, (omega arith, (omega arith, (omega arith, (omega arith, (omega arith, (omega arith, (omega arith, (omega arith, tt)))))))))))))
    where
      same_length : (us : Items) → length (tallies us) ≤ length us
      same_length us = let e = map_length (λ (v : Cell). tally_mark) us in omega arith

most_within : (N : ℕ) (l a b d : List Row) → length l ≤ N → length a ≤ N → length b ≤ N → AllOf (λ (z : List Row). length z ≤ N) (slice_tables l a b d) → slice_most l a b d ≤ N
most_within N l a b d x y z w =
    let w2 = w.1.1 in
    let w5 = w2.1.1.1 in
    let w7 = w5.1.1 in
    let w9 = w7.1.1 in
    let e = length-append l (tallied_rows l a ++ d) in
    let e' = length-append (tallied_rows l a) d in
    let s = w2.0 in
    let sum : length l + length (tallied_rows l a) + length d ≤ N = omega arith in
    let trio = max-le sum (max-le (max-le (max-le x w2.1.0) (max-le z (max-le w2.1.1.0 w5.0))) w5.1.0) in
    let own = max-le (max-le x y) (max-le z (max-le w7.0 w7.1.0)) in
    let last = max-le (max-le x w9.0) (max-le w9.1.0 (max-le w9.1.1.0 w9.1.1.1.0)) in
    max-le (max-le w.0 w.1.0) (max-le trio (max-le own last))

module _ (docs : Docs) (s s1 s2 : State) (site : Site) (looped a b d t : OpId) (cs : List Check) where
  abbrev L : List Row
  L = (at s looped).rows

  abbrev A : List Row
  A = (at s a).rows

  abbrev B : List Row
  B = (at s b).rows

  abbrev D : List Row
  D = (at s d).rows

  abbrev tests : List (Iter → List Cell) → List (Iter → Bool)
  tests (h ∷ k ∷ j ∷ []) = operand_tests (operands (tallied_rows L A) B D) ((λ i. tallied (h i)) ∷ k ∷ j ∷ [])
  tests _ = []

  within : (N : ℕ) → length L + op_sizes s (a ∷ b ∷ d ∷ []) ≤ N → AllOf (λ (z : List Row). length z ≤ N) (slice_tables L A B D) → (slice_most L A B D ≤ N) × (slice_most L A B D ≤ N)
  within N q w =
      let x : length L ≤ N = omega arith in
      let y : length A ≤ N = omega arith in
      let z : length B ≤ N = omega arith in
      let p = most_within N L A B D x y z w in
      (p, p)

  pub slice_call : Makes s s1 t three (slice_rows (at s looped).rows (at s a).rows (at s b).rows (at s d).rows) (slice_most (at s looped).rows (at s a).rows (at s b).rows (at s d).rows)
      → Stages site (slice_most (at s looped).rows (at s a).rows (at s b).rows (at s d).rows) s1 s2 (at s looped).rows (slice_marks (at s looped).rows (at s a).rows (at s b).rows (at s d).rows) cs
      → CallLifts docs s s2 site (Apply f.Subsequence) looped (a ∷ b ∷ d ∷ []) t
  slice_call m st =
      stages_call docs s s1 s2 site (Apply f.Subsequence) looped (a ∷ b ∷ d ∷ []) t cs (slice_marks L A B D) (slice_tables L A B D) tests refl (operands_ranked L (operands (tallied_rows L A) B D)) (operands_dynamic L (operands (tallied_rows L A) B D)) _ _ _ m st within
      (λ its gs tree asc hl hp rooted.
      of_three s its (λ gs. AllMark (marked_rows (slice_marks L A B D)) (tests gs) its × AllOf (λ i. fault_in (call_answer docs site (Apply f.Subsequence) gs i) ≡ first_coded (map first_mark (slice_marks L A B D)) (tests gs) i) its) a b d
      (λ h k j ha hb hd. (
        slice_marked its h k j L A B D asc hl.rows_are ha.rows_are hb.rows_are hd.rows_are,
        all_each _ (λ i. slice_fault its h k j L A B D asc hl.rows_are ha.rows_are hb.rows_are hd.rows_are i) its,
      )) gs hp)
      (λ its gs asc hl hp.
      of_three s its (λ gs. AllOf (λ (z : List Row). length z ≤ length L + op_sizes s (a ∷ b ∷ d ∷ [])) (slice_tables L A B D)) a b d
      (λ h k j ha hb hd.
      all_mono _ _ (λ (z : List Row) (e : length z ≤ length L + length A + length B + length D). let q : length z ≤ length L + op_sizes s (a ∷ b ∷ d ∷ []) = omega arith in q) (slice_tables L A B D)
      (slice_few its h k j L A B D asc hl.rows_are ha.rows_are hb.rows_are hd.rows_are)) gs hp)
      (λ its gs tree asc hl hp rooted none.
      of_three s its (λ gs. Same (slice_rows L A B D) (value_rows (λ i. list_of (value_in (call_answer docs site (Apply f.Subsequence) gs i))) its)) a b d
      (λ h k j ha hb hd. slice_stands its h k j L A B D asc hl.rows_are ha.rows_are hb.rows_are hd.rows_are) gs hp)
