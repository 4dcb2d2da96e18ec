-- Calls of `string-join` and the text of content, from the rows of their operators: each text behind the one that stands between,
-- all of an iteration in one, and that without its beginning.
use Rattle.std.proofs.Common.{◌≡◌, ℕ, ◌+◌, ◌≤◌, Bool, true, false, cond, not, ◌&&◌, ◌||◌, List, [], ◌∷◌, ◌++◌, length, map, drop, refl, sym, ap, ◌∙◌, arith, Some, None, append_assoc, true≢false}
use Rattle.std.specs.List.{filter, flat_map, list_any}
use Rattle.std.proofs.Math.Nat.{max-le}
use Rattle.std.proofs.Math.Seq.{drop-append_seam}
use Rattle.xq_base.specs.declared.code.Code.TheVariants as c
use Rattle.xq_base.specs.declared.fun.Fun.TheVariants as f
use Rattle.xq_base.specs.Answers.{Answer, Value, Fault as Refused, with_value, both_of}
use Rattle.xq_base.specs.Texts.{Text, joined, blank}
use Rattle.xq_base.specs.Words.{starts_with, text_after, behind_char, parted, rest_of}
use Rattle.xq_base.specs.Atoms.{Atom, IntAtom, TextAtom, UntypedAtom, BoolAtom, text_of}
use Rattle.xq_base.specs.Aggregates.{all_of}
use Rattle.xq_base.specs.TextRules.{or_empty, string_of, one_text, text_list}
use Rattle.doc_table.specs.Items.{TextItem}
use Rattle.doc_table.specs.Values.{Items, items_of, data_of, atomized}
use Rattle.doc_table.specs.NodeRules.{Docs}
use Rattle.plan_dag.specs.declared.op.Agg.TheVariants as g'
use Rattle.plan_dag.specs.declared.op.OpId.{OpId}
use Rattle.plan_dag.specs.declared.check.Check.{Check}
use Rattle.plan_dag.specs.Cells.{given}
use Rattle.plan_dag.specs.ItemRules.{Cell, outcome_of}
use Rattle.plan_dag.specs.Rows.{is_code}
use Rattle.core_meaning.specs.Expr.{Site, Apply}
use Rattle.core_meaning.specs.Meaning.{value_in}
use Rattle.lift_laws.specs.Sums.{total, AllOf, Ascends, Same}
use Rattle.lift_laws.specs.Iterations.{Row, Iter, num, item_rows, value_rows, loop_rows}
use Rattle.lift_laws.specs.Bulk.{list_of}
use Rattle.lift_laws.specs.States.{State, at, Makes, Holds, HoldAll, three, single}
use Rattle.lift_laws.specs.Shapes.{bare, pair, columns, pick, any_rows, restrict_rows}
use Rattle.lift_laws.specs.Stages.{Stages}
use Rattle.lift_laws.specs.Pairs.{side_rows, side_value_rows, own_fail_rows}
use Rattle.lift_laws.specs.Aggregates.{sorted_rows, grouped_by}
use Rattle.lift_laws.specs.Readings.{OneText, unfit_tables}
use Rattle.lift_laws.specs.Joins.{turned_cells, led_rows, whole_rows, joined_rows, joined_most, join_marks, join_loop, blank_rows}
use Rattle.lift_laws.specs.Lifting.{CallLifts, call_answer, call_cost}
use Rattle.lift_laws.proofs.Multi.{same-of, same-trans, same-map, same-flat, same-length, length-total, total-flat}
use Rattle.lift_laws.proofs.Picks.{all_each, all_mono, flat-all, flat-flat, map-flat}
use Rattle.lift_laws.proofs.Sizes.{map_length, size_cells, size_loop, total_most}
use Rattle.lift_laws.proofs.Keeping.{append_none}
use Rattle.lift_laws.proofs.Numbers.{nat_eq_self}
use Rattle.lift_laws.proofs.Simple.{literal_stands, either_stands, left_out}
use Rattle.lift_laws.proofs.Marks.{some, unmarked_stands, fault_in}
use Rattle.lift_laws.proofs.Operands.{marks_any}
use Rattle.lift_laws.proofs.Cleared.{none_of, AllMark, marks_keep, keep_all_true}
use Rattle.lift_laws.proofs.Staged.{op_sizes, args_few}
use Rattle.lift_laws.proofs.Stagings.{first_coded, first_mark, marked_rows, stages_call}
use Rattle.lift_laws.proofs.FunctionCases.{some_items, quiet_call}
use Rattle.lift_laws.proofs.PairRows.{fit, moved, lefts, own_hit, sides_join, sides_stand, few_sided_left, few_sides, side_values_stand, given_at}
use Rattle.lift_laws.proofs.PairCodes.{sooner}
use Rattle.lift_laws.proofs.ConcatCase.{marks_of_some, pair_few}
use Rattle.lift_laws.proofs.AggregateCase.{front_of, groups_stand, sorted_few, grouped_few}
use Rattle.lift_laws.proofs.Arguments.{of_two}
use Rattle.lift_laws.proofs.ReadingCase.{fault_by, string_codes, own_text, unfit_tests, marks_own, unfit_marks, reading_fault, with_fault, both_fault, two_faults, calm_stands, calm, calm_none, none_first, Single, text_single, both_calm, where_calm}

-- a text behind another one
begun : (u t : Text) → starts_with (u ++ t) u ≡ true
begun [] [] = refl
begun [] (d ∷ ds) = refl
begun (d ∷ ds) t = ap (λ b. b && starts_with (ds ++ t) ds) (nat_eq_self d) ∙ begun ds t

pub after_itself : (u t : Text) → text_after (u ++ t) u ≡ t
after_itself [] [] = refl
after_itself [] (d ∷ ds) = refl
after_itself (d ∷ ds) t =
    ap (λ b. rest_of (cond b (Some ([], drop (length (d ∷ ds)) (d ∷ (ds ++ t)))) (behind_char d (parted (ds ++ t) (d ∷ ds))))) (begun (d ∷ ds) t)
    ∙ drop-append_seam (d ∷ ds) t

-- texts that each stand behind one
abbrev led_text : Text → Text → Text
led_text s t = s ++ (t ++ [])

led_whole : (s t : Text) (ts : List Text) → joined [] (map (led_text s) (t ∷ ts)) ≡ s ++ joined s (t ∷ ts)
led_whole s t [] = ap (λ z. s ++ z) (append_none t)
led_whole s t (u ∷ ts) =
    let all = joined [] (map (led_text s) (u ∷ ts)) in
    let rest = joined s (u ∷ ts) in
    ap (λ z. z ++ all) (append_none (s ++ (t ++ []))) ∙ ap (λ z. (s ++ z) ++ all) (append_none t) ∙ ap (λ z. (s ++ t) ++ z) (led_whole s u ts)
    ∙ append_assoc s t (s ++ rest) ∙ ap (λ z. s ++ z) (sym (append_assoc t s rest))

abbrev plain : Cell → Text
plain v = text_of (atomized v)

abbrev led : Cell → Cell → Cell
led s v = TextItem (led_text (plain s) (plain v))

abbrev plains : Items → List Text
plains us = map text_of (data_of us)

led_plains : (s : Cell) (us : Items) → plains (map (led s) us) ≡ map (led_text (plain s)) (plains us)
led_plains s [] = refl
led_plains s (u ∷ us) = ap (λ l. led_text (plain s) (plain u) ∷ l) (led_plains s us)

-- in one iteration: the texts of these items behind this one
abbrev led_in : Items → Items → Items
led_in (s ∷ []) us = map (led s) us
led_in _ us = []

no_led : (b : Bool) (ss us : Items) → some us ≡ false → cond b (led_in ss us) [] ≡ []
no_led false ss us e = refl
no_led true ss (u ∷ us) e = absurd (true≢false (some_items (u ∷ us) ∙ e))
no_led true [] [] e = refl
no_led true (s ∷ []) [] e = refl
no_led true (s ∷ r ∷ ss) [] e = refl

abbrev out : Row → Row
out r = pick (columns (0 ∷ 1 ∷ 2 ∷ 4 ∷ 5 ∷ 3 ∷ [])) (pair 0 0 ∷ pair 1 1 ∷ pair 2 3 ∷ []) r

abbrev with_led : Row → List Row
with_led r = map (λ v. r ++ v ∷ []) (given (bare.value f.Concat (turned_cells r)))

abbrev pub beside_it : ℕ → Items → Row → List Row
beside_it n ss l = map (λ r. l ++ r) (map moved (item_rows n 1 ss))

led_items : (n k : ℕ) (s : Cell) (us : Items) → map out (flat_map with_led (flat_map (beside_it n (s ∷ [])) (item_rows n k us))) ≡ item_rows n k (map (led s) us)
led_items n k s [] = refl
led_items n k s (u ∷ us) = ap (λ l. (num n ∷ num k ∷ led s u ∷ []) ∷ l) (led_items n (k + 1) s us)

led_one : (b : Bool) (n : ℕ) (us ss : Items) → (b ≡ true → Single ss) → map out (flat_map with_led (flat_map (beside_it n ss) (lefts b n us))) ≡ item_rows n 1 (cond b (led_in ss us) [])
led_one true n us ss k =
    let s = k refl in
    ap (λ x. map out (flat_map with_led (flat_map (beside_it n x) (item_rows n 1 us)))) s.1 ∙ led_items n 1 s.0 us ∙ ap (λ x. item_rows n 1 (led_in x us)) (sym s.1)
led_one false n us ss k = refl

ones : (n k : ℕ) (us : Items) → total (λ (l : Row). 1 + 0) (item_rows n k us) ≡ length us
ones n k [] = refl
ones n k (u ∷ us) = let e = ones n (k + 1) us in omega arith

pub side_size : (b : Bool) (n : ℕ) (us ss : Items) → (b ≡ true → Single ss) → total (λ (r : Row). 1) (flat_map (beside_it n ss) (lefts b n us)) ≤ length us
side_size true n us ss k =
    let s = k refl in
    let e = ap (λ x. total (λ (r : Row). 1) (flat_map (beside_it n x) (item_rows n 1 us))) s.1 ∙ total-flat (λ (r : Row). 1) (beside_it n (s.0 ∷ [])) (item_rows n 1 us) ∙ ones n 1 us in
    omega arith
side_size false n us ss k = omega arith

-- what is given of all that an iteration has
abbrev wholes : Bool → Items → Items → Items
wholes b ss us = front_of g'.Concat (cond b (led_in ss us) [])

whole_fit : (vs ss : Items) → Single ss → fit (front_of g'.Concat vs) ss ≡ true
whole_fit vs ss s = ap (fit (front_of g'.Concat vs)) s.1 ∙ go (some vs)
  where
    go : (b : Bool) → fit (cond b (TextItem (joined [] (plains vs)) ∷ []) []) (s.0 ∷ []) ≡ true
    go true = refl
    go false = refl

front_few : (vs : Items) → length (front_of g'.Concat vs) ≤ 1
front_few vs = go (some vs)
  where
    go : (b : Bool) → length (cond b (TextItem (joined [] (plains vs)) ∷ []) []) ≤ 1
    go true = omega arith
    go false = omega arith

abbrev empty : Cell
empty = TextItem []

-- that without its beginning, or the empty text
abbrev ended : Bool → Items → Items → Items
ended b ss us = cond (some us) (given_at f.SubstringAfter (wholes b ss us) ss) (empty ∷ [])

abbrev read_text : Cell → Answer Text
read_text s = string_of (atomized s)

plain_text : (s : Cell) (t : Text) → read_text s ≡ Value t → plain s ≡ t
plain_text s t e = go (atomized s) e
  where
    or_none : Answer Text → Text
    or_none (Value x) = x
    or_none (Refused d) = []

    go : (a : Atom) → string_of a ≡ Value t → text_of a ≡ t
    go (TextAtom u) q = ap or_none q
    go (UntypedAtom u) q = ap or_none q
    go (IntAtom z) q = cc
    go (BoolAtom b) q = cc

after_one : (T : Text) (s : Cell) (t : Text) → read_text s ≡ Value t → given_at f.SubstringAfter (TextItem T ∷ []) (s ∷ []) ≡ TextItem (text_after T t) ∷ []
after_one T s t e = ap (λ x. given (outcome_of (with_value items_of (with_value (λ (p : Text × Text). text_list (text_after p.0 p.1)) (both_of (Value T) (with_value or_empty (with_value Some x))))))) e

some_led : (s u : Cell) (us : Items) → some (map (led s) (u ∷ us)) ≡ true
some_led s u us = sym (some_items (map (led s) (u ∷ us)))

ended_text : (s : Cell) (t : Text) (us : Items) → read_text s ≡ Value t → ended true (s ∷ []) us ≡ TextItem (joined t (plains us)) ∷ []
ended_text s t [] e = refl
ended_text s t (u ∷ us) e =
    ap (λ b. cond b (given_at f.SubstringAfter (wholes true (s ∷ []) (u ∷ us)) (s ∷ [])) (empty ∷ [])) (sym (some_items (u ∷ us)))
    ∙ ap (λ b. given_at f.SubstringAfter (cond b (TextItem (joined [] (plains (map (led s) (u ∷ us)))) ∷ []) []) (s ∷ [])) (some_led s u us)
    ∙ after_one (joined [] (plains (map (led s) (u ∷ us)))) s t e
    ∙ ap (λ x. TextItem (text_after x t) ∷ []) (ap (joined []) (led_plains s (u ∷ us)) ∙ ap (λ x. joined [] (map (led_text x) (plains (u ∷ us)))) (plain_text s t e) ∙ led_whole t (plain u) (plains us))
    ∙ ap (λ x. TextItem x ∷ []) (after_itself t (joined t (plains (u ∷ us))))

ended_is : (b : Bool) (ss us : Items) (t : Text) → b ≡ true → (s : Single ss) → read_text s.0 ≡ Value t → ended b ss us ≡ TextItem (joined t (plains us)) ∷ []
ended_is b ss us t e s q = ap (λ x. ended x ss us) e ∙ ap (λ x. ended true x us) s.1 ∙ ended_text s.0 t us q

ended_few : (b : Bool) (ss us : Items) → length (ended b ss us) ≤ 1
ended_few b ss us = go (some us)
  where
    go : (d : Bool) → length (cond d (given_at f.SubstringAfter (wholes b ss us) ss) (empty ∷ [])) ≤ 1
    go true = pair_few f.SubstringAfter (wholes b ss us) ss
    go false = omega arith

kept_values : (p : Iter → Bool) (v : Iter → List Cell) (its : List Iter) → value_rows v (filter p its) ≡ value_rows (λ i. cond (p i) (v i) []) its
kept_values p v [] = refl
kept_values p v (i ∷ its) =
    elim (p i) as (λ b. value_rows v (cond b (i ∷ filter p its) (filter p its)) ≡ item_rows i.number 1 (cond b (v i) []) ++ value_rows (λ j. cond (p j) (v j) []) its) [
      | true ↦ ap (λ l. item_rows i.number 1 (v i) ++ l) (kept_values p v its)
      | false ↦ kept_values p v its
    ]

-- the rows, in the iterations p, in each of which one text stands between
module _ (p : Iter → Bool) (h k : Iter → List Cell) (its : List Iter) (l m a b : List Row) (asc : Ascends (λ i. i.number) 0 its) (sl : Same l (loop_rows its)) (sm : Same m (loop_rows (filter p its))) (sa : Same a (value_rows h its)) (sb : Same b (value_rows k its))
    (one : (i : Iter) → p i ≡ true → Single (k i)) where
  abbrev led_at : Iter → List Cell
  led_at i = cond (p i) (led_in (k i) (h i)) []

  abbrev wholes_at : Iter → List Cell
  wholes_at i = wholes (p i) (k i) (h i)

  abbrev sides_at : Iter → List Row
  sides_at i = flat_map (beside_it i.number (k i)) (lefts (p i) i.number (h i))

  sides_there : Same (side_rows m a b) (flat_map sides_at its)
  sides_there = sides_join p h k its m a b asc sm sa sb

  led_stand : Same (led_rows m a b) (value_rows led_at its)
  led_stand =
      same-trans (same-map out (same-flat with_led sides_there))
      (same-of (ap (map out) (flat-flat with_led sides_at its)
      ∙ map-flat out (λ i. flat_map with_led (sides_at i)) its
      ∙ flat-all _ _ its (all_each _ (λ i. led_one (p i) i.number (h i) (k i) (one i)) its)))

  wholes_stand : Same (whole_rows l m a b) (value_rows wholes_at its)
  wholes_stand = groups_stand g'.Concat led_at its l _ asc sl led_stand

  whole_fits : (i : Iter) → p i ≡ true → fit (wholes_at i) (k i) ≡ true
  whole_fits i e = whole_fit (led_at i) (k i) (one i e)

  abbrev after_at : Iter → List Cell
  after_at i = given_at f.SubstringAfter (wholes_at i) (k i)

  after_stand : Same (side_value_rows f.SubstringAfter (side_rows m (whole_rows l m a b) b)) (value_rows (λ i. cond (p i) (after_at i) []) its)
  after_stand = side_values_stand f.SubstringAfter p wholes_at k its _ (sides_stand p wholes_at k its m _ b asc sm wholes_stand sb whole_fits)

  none_after : (i : Iter) → some (h i) ≡ false → after_at i ≡ []
  none_after i e = ap (λ vs. given_at f.SubstringAfter (front_of g'.Concat vs) (k i)) (no_led (p i) (k i) (h i) e)

  abbrev has : Iter → Bool
  has i = some (h i)

  pub joined_stand : Same (joined_rows l m a b) (value_rows (λ i. cond (p i) (ended (p i) (k i) (h i)) []) its)
  joined_stand =
      let front = same-trans after_stand (same-of (sym (kept_values p after_at its) ∙ left_out has after_at none_after (filter p its))) in
      let named = (marks_keep p (any_rows a ∷ []) (has ∷ []) its (marks_any h its a asc sa, tt)).0 in
      let back = literal_stands empty (filter (λ i. not (has i)) (filter p its)) _ (unmarked_stands has (filter p its) m _ sm named) in
      same-trans (either_stands has after_at (λ i. empty ∷ []) (filter p its) _ _ front back) (same-of (kept_values p (λ i. ended (p i) (k i) (h i)) its))

  abbrev mids : List (List Row)
  mids =
      restrict_rows m a ∷ side_rows m a b ∷ sorted_rows (led_rows m a b) ∷ grouped_by g'.Concat l (sorted_rows (led_rows m a b))
      ∷ restrict_rows m (whole_rows l m a b) ∷ side_rows m (whole_rows l m a b) b ∷ joined_rows l m a b ∷ []

  pub joined_few : AllOf (λ (j : List Row). length j ≤ length l + length a) mids
  joined_few =
      let n = same-length sl ∙ size_loop its in
      let u = length-total its in
      let x = few_sided_left p h k its m a b asc sm sa sb in
      let y = same-length sides_there ∙ length-total (flat_map sides_at its) ∙ total-flat (λ r. 1) sides_at its in
      let y' = total_most (λ i. total (λ (r : Row). 1) (sides_at i)) (λ i. length (h i)) its (λ i. side_size (p i) i.number (h i) (k i) (one i)) in
      let z = same-length sa ∙ size_cells h its in
      let v = sorted_few g'.Concat led_at its l _ asc sl led_stand in
      let v' = same-length led_stand ∙ size_cells led_at its in
      let v'' = total_most (λ i. length (led_at i)) (λ i. length (h i)) its (λ i. led_few (p i) (k i) (h i)) in
      let w = grouped_few g'.Concat led_at its l _ asc sl led_stand in
      let q = few_sided_left p wholes_at k its m _ b asc sm wholes_stand sb in
      let q' = same-length wholes_stand ∙ size_cells wholes_at its in
      let q'' = total_most (λ i. length (wholes_at i)) (λ i. 1) its (λ i. front_few (led_at i)) in
      let r = few_sides p wholes_at k its m _ b asc sm wholes_stand sb whole_fits in
      let o = same-length joined_stand ∙ size_cells (λ i. cond (p i) (ended (p i) (k i) (h i)) []) its in
      let o' = total_most (λ i. length (cond (p i) (ended (p i) (k i) (h i)) [])) (λ i. 1) its (λ i. only_few (p i) (ended (p i) (k i) (h i)) (ended_few (p i) (k i) (h i))) in
      (omega arith, (omega arith, (omega arith, (omega arith, (omega arith, (omega arith, (omega arith, tt)))))))
    where
      led_few : (d : Bool) (ss us : Items) → length (cond d (led_in ss us) []) ≤ length us
      led_few false ss us = omega arith
      led_few true [] us = omega arith
      led_few true (s ∷ []) us = let e = map_length (led s) us in omega arith
      led_few true (s ∷ r ∷ ss) us = omega arith

      only_few : (d : Bool) (vs : Items) → length vs ≤ 1 → length (cond d vs []) ≤ 1
      only_few true vs e = e
      only_few false vs e = omega arith

-- `string-join`
abbrev joined_in : List Text × Text → List Atom
joined_in p = text_list (joined p.1 p.0)

abbrev join_answer : Items → Items → Answer Items
join_answer us vs = with_value items_of (with_value joined_in (both_of (all_of string_of (data_of us)) (one_text (data_of vs))))

inner_fault : (x : Answer (List Text × Text)) → fault_in (with_value items_of (with_value joined_in x)) ≡ fault_in x
inner_fault (Value a) = refl
inner_fault (Refused d) = refl

two_wrong : (x y : Bool) → sooner (fault_by x false) (fault_by y false) ≡ fault_by (x || y) false
two_wrong true true = refl
two_wrong true false = refl
two_wrong false true = refl
two_wrong false false = refl

texts_fault : (us : Items) → fault_in (all_of string_of (data_of us)) ≡ fault_by (list_any (own_hit f.Compare c.XPTY0004) us) false
texts_fault [] = refl
texts_fault (u ∷ us) =
    with_fault _ (both_of (read_text u) (all_of string_of (data_of us))) ∙ both_fault (read_text u) (all_of string_of (data_of us))
    ∙ ap (λ x. sooner x (fault_in (all_of string_of (data_of us)))) (string_codes (atomized u) ∙ ap (λ x. fault_by (is_code c.XPTY0004 x) false) (sym (own_text u)))
    ∙ ap (sooner (fault_by (own_hit f.Compare c.XPTY0004 u) false)) (texts_fault us)
    ∙ two_wrong (own_hit f.Compare c.XPTY0004 u) (list_any (own_hit f.Compare c.XPTY0004) us)

abbrev join_test : (Iter → List Cell) → (Iter → List Cell) → List (Iter → Bool)
join_test h k = (λ i. list_any (own_hit f.Compare c.XPTY0004) (h i)) ∷ unfit_tests OneText k

abbrev join_tests : List (Iter → List Cell) → List (Iter → Bool)
join_tests [] = []
join_tests (h ∷ []) = []
join_tests (h ∷ k ∷ hs) = (λ i. not (none_of (join_test h k) i)) ∷ []

join_fault : (l a b : List Row) (h k : Iter → List Cell) (i : Iter) → fault_in (join_answer (h i) (k i)) ≡ first_coded (map first_mark (join_marks l a b)) (join_tests (h ∷ k ∷ [])) i
join_fault l a b h k i =
    inner_fault (both_of (all_of string_of (data_of (h i))) (one_text (data_of (k i))))
    ∙ two_faults (all_of string_of (data_of (h i))) (one_text (data_of (k i))) (not (list_any (own_hit f.Compare c.XPTY0004) (h i))) true (none_of (unfit_tests OneText k) i) true
    (texts_fault (h i) ∙ ap (λ x. fault_by x false) (twice (list_any (own_hit f.Compare c.XPTY0004) (h i)))) (reading_fault OneText k i)
  where
    twice : (x : Bool) → x ≡ not (not x)
    twice true = refl
    twice false = refl

-- the values where nothing fails
string_is : (a : Atom) → fault_in (string_of a) ≡ None → string_of a ≡ Value (text_of a)
string_is (TextAtom t) e = refl
string_is (UntypedAtom t) e = refl
string_is (IntAtom z) e = cc
string_is (BoolAtom b) e = cc

strings_are : (as' : List Atom) → fault_in (all_of string_of as') ≡ None → all_of string_of as' ≡ Value (map text_of as')
strings_are [] e = refl
strings_are (a ∷ as') e =
    let k = both_calm (string_of a) (all_of string_of as') (sym (with_fault (λ (p : Text × List Text). p.0 ∷ p.1) (both_of (string_of a) (all_of string_of as'))) ∙ e) in
    ap (λ x. with_value (λ (p : Text × List Text). p.0 ∷ p.1) (both_of x (all_of string_of as'))) (string_is a k.0)
    ∙ ap (λ x. with_value (λ (p : Text × List Text). p.0 ∷ p.1) (both_of (Value (text_of a)) x)) (strings_are as' k.1)

-- one text stands between
pub record Between (us vs : Items) : Type 0 where
  pub only : Single vs
  pub text : Text
  pub text_is : read_text only.0 ≡ Value text
  pub value_is : list_of (value_in (join_answer us vs)) ≡ TextItem (joined text (plains us)) ∷ []

between : (us vs : Items) → fault_in (join_answer us vs) ≡ None → Between us vs
between us vs e =
    let k = both_calm (all_of string_of (data_of us)) (one_text (data_of vs)) (sym (inner_fault (both_of (all_of string_of (data_of us)) (one_text (data_of vs)))) ∙ e) in
    let s = text_single vs k.1 in
    let q : fault_in (read_text s.0) ≡ None = sym (ap (λ x. fault_in (one_text (data_of x))) s.1) ∙ k.1 in
    let t = string_is (atomized s.0) q in
    let J = λ (x : Answer (List Text)) (y : Answer Text). list_of (value_in (with_value items_of (with_value joined_in (both_of x y)))) in
    record {
      only = s;
      text = plain s.0;
      text_is = t;
      value_is = ap (λ x. J x (one_text (data_of vs))) (strings_are (data_of us) k.0) ∙ ap (λ x. J (Value (plains us)) (one_text (data_of x))) s.1 ∙ ap (J (Value (plains us))) t;
    }

module _ (its : List Iter) (h k : Iter → List Cell) (l a b : List Row) (asc : Ascends (λ i. i.number) 0 its) (sl : Same l (loop_rows its)) (sa : Same a (value_rows h its)) (sb : Same b (value_rows k its)) where
  join_marked : AllMark (marked_rows (join_marks l a b)) (join_tests (h ∷ k ∷ [])) its
  join_marked = (marks_of_some (own_fail_rows f.Compare c.XPTY0004 a ∷ unfit_tables OneText l b) (join_test h k) its l asc sl (marks_own its l asc sl f.Compare c.XPTY0004 h a sa, unfit_marks its l asc sl OneText k b sb), tt)

  abbrev free : Iter → Bool
  free i = none_of (join_tests (h ∷ k ∷ [])) i

  free_is : (i : Iter) → free i ≡ calm (fault_in (join_answer (h i) (k i)))
  free_is i = none_first (join_marks l a b) (join_tests (h ∷ k ∷ [])) its i join_marked ∙ ap calm (sym (join_fault l a b h k i))

  here : (i : Iter) → free i ≡ true → Between (h i) (k i)
  here i e = between (h i) (k i) (calm_none (fault_in (join_answer (h i) (k i))) (sym (free_is i) ∙ e))

  left_loop : Same (join_loop l a b) (loop_rows (filter free its))
  left_loop = calm_stands its l asc sl (join_marks l a b) (join_tests (h ∷ k ∷ [])) join_marked

  join_value : (i : Iter) → free i ≡ true → ended (free i) (k i) (h i) ≡ list_of (value_in (join_answer (h i) (k i)))
  join_value i e =
      let r = here i e in
      ended_is (free i) (k i) (h i) r.text e r.only r.text_is ∙ sym r.value_is

  join_stands : Same (joined_rows l (join_loop l a b) a b) (value_rows (λ i. list_of (value_in (join_answer (h i) (k i)))) its)
  join_stands =
      same-trans (joined_stand free h k its l _ a b asc sl left_loop sa sb (λ i e. (here i e).only))
      (same-of (flat-all _ _ its (all_each _ (λ i. ap (item_rows i.number 1) (where_calm (join_answer (h i) (k i)) (free i) (ended (free i) (k i) (h i)) (free_is i) (λ e. join_value i (free_is i ∙ ap calm e)))) its)))

  join_few : AllOf (λ (j : List Row). length j ≤ length l + length a) (mids free h k its l (join_loop l a b) a b asc sl left_loop sa sb (λ i e. (here i e).only))
  join_few = joined_few free h k its l (join_loop l a b) a b asc sl left_loop sa sb (λ i e. (here i e).only)

abbrev tables : List Row → List Row → List Row → List Row → List (List Row)
tables l m a b =
    restrict_rows m a ∷ side_rows m a b ∷ sorted_rows (led_rows m a b) ∷ grouped_by g'.Concat l (sorted_rows (led_rows m a b))
    ∷ restrict_rows m (whole_rows l m a b) ∷ side_rows m (whole_rows l m a b) b ∷ joined_rows l m a b ∷ []

most_within : (N : ℕ) (l m a b : List Row) → length l + length a ≤ N → length b ≤ N → AllOf (λ (j : List Row). length j ≤ N) (tables l m a b) → joined_most l m a b ≤ N
most_within N l m a b x y w = max-le (max-le x y) (max-le (max-le w.0 (max-le w.1.0 (max-le w.1.1.0 w.1.1.1.0))) (max-le w.1.1.1.1.0 (max-le w.1.1.1.1.1.0 w.1.1.1.1.1.1.0)))

pub join_call : (docs : Docs) (s s1 s2 : State) (site : Site) (looped a b t : OpId) (cs : List Check)
    → Makes s s1 t three (joined_rows (at s looped).rows (join_loop (at s looped).rows (at s a).rows (at s b).rows) (at s a).rows (at s b).rows) (joined_most (at s looped).rows (join_loop (at s looped).rows (at s a).rows (at s b).rows) (at s a).rows (at s b).rows)
    → Stages site (joined_most (at s looped).rows (join_loop (at s looped).rows (at s a).rows (at s b).rows) (at s a).rows (at s b).rows) s1 s2 (at s looped).rows (join_marks (at s looped).rows (at s a).rows (at s b).rows) cs
    → CallLifts docs s s2 site (Apply f.StringJoin) looped (a ∷ b ∷ []) t
join_call docs s s1 s2 site looped a b t cs m st =
    stages_call docs s s1 s2 site (Apply f.StringJoin) looped (a ∷ b ∷ []) t cs (join_marks L A B) (tables L (join_loop L A B) A B) join_tests refl (tt, tt) (refl, tt) _ _ _ m st
    (λ N q w.
    let x : length L + length A ≤ N = omega arith in
    let y : length B ≤ N = omega arith in
    let z = most_within N L (join_loop L A B) A B x y w in
    (z, z))
    (λ its gs tree asc hl hp rooted.
    of_two s its (λ gs. AllMark (marked_rows (join_marks L A B)) (join_tests gs) its × AllOf (λ i. fault_in (call_answer docs site (Apply f.StringJoin) gs i) ≡ first_coded (map first_mark (join_marks L A B)) (join_tests gs) i) its) a b
    (λ h k ha hb. (join_marked its h k L A B asc hl.rows_are ha.rows_are hb.rows_are, all_each _ (λ i. join_fault L A B h k i) its)) gs hp)
    (λ its gs asc hl hp.
    of_two s its (λ gs. AllOf (λ (j : List Row). length j ≤ length L + op_sizes s (a ∷ b ∷ [])) (tables L (join_loop L A B) A B)) a b
    (λ h k ha hb. all_mono _ _ (λ (j : List Row) (e : length j ≤ length L + length A). let q : length j ≤ length L + op_sizes s (a ∷ b ∷ []) = omega arith in q) (tables L (join_loop L A B) A B) (join_few its h k L A B asc hl.rows_are ha.rows_are hb.rows_are)) gs hp)
    (λ its gs tree asc hl hp rooted z.
    of_two s its (λ gs. Same (joined_rows L (join_loop L A B) A B) (value_rows (λ i. list_of (value_in (call_answer docs site (Apply f.StringJoin) gs i))) its)) a b
    (λ h k ha hb. join_stands its h k L A B asc hl.rows_are ha.rows_are hb.rows_are) gs hp)
  where
    L : List Row
    L = (at s looped).rows

    A : List Row
    A = (at s a).rows

    B : List Row
    B = (at s b).rows

-- the text of content
abbrev blanks : Iter → List Cell
blanks i = TextItem blank ∷ []

abbrev all : Iter → Bool
all i = true

module _ (its : List Iter) (h : Iter → List Cell) (l a : List Row) (asc : Ascends (λ i. i.number) 0 its) (sl : Same l (loop_rows its)) (sa : Same a (value_rows h its)) where
  whole_loop : Same l (loop_rows (filter all its))
  whole_loop = same-trans sl (same-of (ap loop_rows (sym (keep_all_true its))))

  blanks_stand : Same (blank_rows l) (value_rows blanks its)
  blanks_stand = literal_stands (TextItem blank) its l sl

  content_stands : Same (joined_rows l l a (blank_rows l)) (value_rows (λ i. TextItem (joined blank (plains (h i))) ∷ []) its)
  content_stands =
      same-trans (joined_stand all h blanks its l l a _ asc sl whole_loop sa blanks_stand (λ i e. (TextItem blank, refl)))
      (same-of (flat-all _ _ its (all_each _ (λ i. ap (item_rows i.number 1) (ended_text (TextItem blank) blank (h i) refl)) its)))

  content_few : (N : ℕ) → length l + length a ≤ N → joined_most l l a (blank_rows l) ≤ N
  content_few N q =
      let w = joined_few all h blanks its l l a (blank_rows l) asc sl whole_loop sa blanks_stand (λ i e. (TextItem blank, refl)) in
      let x = same-length blanks_stand ∙ size_cells blanks its in
      let y = same-length sl ∙ size_loop its ∙ length-total its in
      let z : length (blank_rows l) ≤ N = omega arith in
      most_within N l l a (blank_rows l) q z (all_mono _ _ (λ (j : List Row) (e : length j ≤ length l + length a). let r : length j ≤ N = omega arith in r) (tables l l a (blank_rows l)) w)

module _ (docs : Docs) (s s' : State) (site : Site) (looped a t : OpId) (m : Makes s s' t three (joined_rows (at s looped).rows (at s looped).rows (at s a).rows (blank_rows (at s looped).rows)) (joined_most (at s looped).rows (at s looped).rows (at s a).rows (blank_rows (at s looped).rows))) where
  few : (N : ℕ) (its : List Iter) (gs : List (Iter → List Cell)) → Ascends (λ i. i.number) 0 its → Holds s looped single (loop_rows its) → HoldAll s (a ∷ []) gs its → call_cost docs site (Apply f.ContentText) gs its ≤ N → joined_most (at s looped).rows (at s looped).rows (at s a).rows (blank_rows (at s looped).rows) ≤ N
  few N its [] asc hl hp enough = absurd hp
  few N its (h ∷ []) asc hl hp enough =
      let q = args_few docs s site (Apply f.ContentText) looped (a ∷ []) N its (h ∷ []) hl hp enough in
      content_few its h (at s looped).rows (at s a).rows asc hl.rows_are hp.0.rows_are N (omega arith)
  few N its (h ∷ k ∷ gs) asc hl hp enough = absurd hp.1

  quiet : (gs : List (Iter → List Cell)) (its : List Iter) → HoldAll s (a ∷ []) gs its → AllOf (λ i. fault_in (call_answer docs site (Apply f.ContentText) gs i) ≡ None) its
  quiet [] its hp = absurd hp
  quiet (h ∷ []) its hp = all_each _ (λ i. refl) its
  quiet (h ∷ k ∷ gs) its hp = absurd hp.1

  stand : (its : List Iter) (gs : List (Iter → List Cell)) → Ascends (λ i. i.number) 0 its → Holds s looped single (loop_rows its) → HoldAll s (a ∷ []) gs its → Same (joined_rows (at s looped).rows (at s looped).rows (at s a).rows (blank_rows (at s looped).rows)) (value_rows (λ i. list_of (value_in (call_answer docs site (Apply f.ContentText) gs i))) its)
  stand its [] asc hl hp = absurd hp
  stand its (h ∷ []) asc hl hp = content_stands its h (at s looped).rows (at s a).rows asc hl.rows_are hp.0.rows_are
  stand its (h ∷ k ∷ gs) asc hl hp = absurd hp.1

  pub content_call : CallLifts docs s s' site (Apply f.ContentText) looped (a ∷ []) t
  content_call = quiet_call docs site (Apply f.ContentText) looped (a ∷ []) t _ _ m refl few quiet stand
