-- Calls of `to`, from the rows of their operators: runs of integers, in the iterations that no check names.
use Rattle.std.proofs.Common.{◌≡◌, ℕ, zero, suc, ◌+◌, ◌≤◌, Bool, true, false, cond, not, ◌&&◌, List, [], ◌∷◌, ◌++◌, length, map, refl, sym, ap, ◌∙◌, subst, arith, Option, Some, None, ℤ, pos, negsuc, ◌+ℤ◌, ◌-ℤ◌, int_lt}
use Rattle.std.specs.List.{filter, flat_map}
use Rattle.std.proofs.Math.Nat.{max-le}
use Rattle.std.proofs.lemmas.Int.{ints}
use Rattle.xq_base.specs.declared.code.Code.TheVariants as c
use Rattle.xq_base.specs.declared.fun.Fun.TheVariants as f
use Rattle.xq_base.specs.declared.fun.AtomKind.TheVariants as k'
use Rattle.xq_base.specs.Answers.{Answer, Value, Fault as Refused, with_value, both_of}
use Rattle.xq_base.specs.Texts.{integer_in}
use Rattle.xq_base.specs.Atoms.{Atom, IntAtom, TextAtom, UntypedAtom, BoolAtom, spelled, cast_atom}
use Rattle.xq_base.specs.Arithmetic.{or_no_cast, number_of, operand, how_many, run_from, run_between, range_of}
use Rattle.doc_table.specs.Items.{IntItem}
use Rattle.doc_table.specs.Values.{Items, items_of, item_of_atom, data_of, atomized}
use Rattle.doc_table.specs.NodeRules.{Docs}
use Rattle.plan_dag.specs.declared.op.OpId.{OpId}
use Rattle.plan_dag.specs.declared.check.Check.{Check}
use Rattle.plan_dag.specs.Cells.{Outcome, Gives, given}
use Rattle.plan_dag.specs.ItemRules.{Cell, cell_less, outcome_of}
use Rattle.plan_dag.specs.Rows.{ints_from, ints_between, not_negative, range_rows}
use Rattle.plan_dag.specs.Meaning.{cell}
use Rattle.plan_dag.specs.Meaning.{cells as cells_at}
use Rattle.core_meaning.specs.Expr.{Site, Apply}
use Rattle.core_meaning.specs.Meaning.{value_in}
use Rattle.lift_laws.specs.Sums.{total, AllOf, Ascends, Same}
use Rattle.lift_laws.specs.Iterations.{Row, Iter, num, value_rows, loop_rows}
use Rattle.lift_laws.specs.Bulk.{list_of}
use Rattle.lift_laws.specs.States.{State, at, Makes, column, three}
use Rattle.lift_laws.specs.Shapes.{bare, pair, columns, pick, restrict_rows}
use Rattle.lift_laws.specs.Stages.{Stages}
use Rattle.lift_laws.specs.Pairs.{beside_cols}
use Rattle.lift_laws.specs.Readings.{MaybeNumber, Operand, calm_rows}
use Rattle.lift_laws.specs.Ranges.{range_marks, bounds_rows, first_cast_cols, both_cast_cols, between_rows, range_value_rows, range_most}
use Rattle.lift_laws.specs.Lifting.{CallLifts, call_answer, call_cost}
use Rattle.lift_laws.proofs.Multi.{same-of, same-trans, same-map, same-flat, same-length, length-total, total-flat}
use Rattle.lift_laws.proofs.Picks.{all_each, flat-all, flat-flat, map-flat, total-all}
use Rattle.lift_laws.proofs.Sizes.{map_length, size_loop}
use Rattle.lift_laws.proofs.Marks.{fault_in}
use Rattle.lift_laws.proofs.Operands.{has_two}
use Rattle.lift_laws.proofs.Cleared.{none_of, AllMark}
use Rattle.lift_laws.proofs.Staged.{op_sizes, args_few}
use Rattle.lift_laws.proofs.Stagings.{first_coded, first_mark, marked_rows, stages_within}
use Rattle.lift_laws.proofs.PairRows.{fit, side_at, sides_stand, few_sided_left, few_sides}
use Rattle.lift_laws.proofs.NodeOrder.{cell_row, Rising, rising_stands}
use Rattle.lift_laws.proofs.Arguments.{of_two, values_within}
use Rattle.lift_laws.proofs.ReadingCase.{operand_tests, operands_mark, calm_stands, calm, calm_none, none_given, none_first, fault_of_two}

abbrev range_answer : Items → Items → Answer Items
range_answer us vs = with_value items_of (range_of (data_of us) (data_of vs))

-- integers from one on rise
above : (n : ℕ) (x y : ℤ) → int_lt x y ≡ true → AllOf (λ v. (cell_less (IntItem x) v ≡ true) × (cell_less v (IntItem x) ≡ false)) (map IntItem (ints_from y n))
above zero x y h = tt
above (suc n) x y h = ((h, turned), above n x (y +ℤ pos 1) further)
  where
    turned : int_lt y x ≡ false
    turned = go (int_lt y x) refl
      where
        go : (b : Bool) → int_lt y x ≡ b → b ≡ false
        go true e = absurd (omega (arith, ints))
        go false e = refl

    further : int_lt x (y +ℤ pos 1) ≡ true
    further = go (int_lt x (y +ℤ pos 1)) refl
      where
        go : (b : Bool) → int_lt x (y +ℤ pos 1) ≡ b → b ≡ true
        go true e = refl
        go false e = absurd (omega (arith, ints))

next_above : (y : ℤ) → int_lt y (y +ℤ pos 1) ≡ true
next_above y = go (int_lt y (y +ℤ pos 1)) refl
  where
    go : (b : Bool) → int_lt y (y +ℤ pos 1) ≡ b → b ≡ true
    go true e = refl
    go false e = absurd (omega (arith, ints))

run_rises : (n : ℕ) (y : ℤ) → Rising (map IntItem (ints_from y n))
run_rises zero y = tt
run_rises (suc n) y = (above n y (y +ℤ pos 1) (next_above y), run_rises n (y +ℤ pos 1))

-- the run of both bounds
run_is : (n : ℕ) (y : ℤ) → items_of (run_from n y) ≡ map IntItem (ints_from y n)
run_is zero y = refl
run_is (suc n) y = ap (λ l. IntItem y ∷ l) (run_is n (y +ℤ pos 1))

many_is : (z : ℤ) → how_many z ≡ not_negative z
many_is (pos n) = refl
many_is (negsuc n) = refl

abbrev run_at : ℤ → ℤ → List Cell
run_at y z = map IntItem (ints_from y (not_negative (z -ℤ y +ℤ pos 1)))

between_is : (y z : ℤ) → items_of (run_between (Some y, Some z)) ≡ run_at y z
between_is y z = run_is (how_many (z -ℤ y +ℤ pos 1)) y ∙ ap (λ n. map IntItem (ints_from y n)) (many_is (z -ℤ y +ℤ pos 1))

answer_rises : (us vs : Items) → Rising (list_of (value_in (range_answer us vs)))
answer_rises us vs = go (both_of (operand (data_of us)) (operand (data_of vs)))
  where
    go : (x : Answer (Option ℤ × Option ℤ)) → Rising (list_of (value_in (with_value items_of (with_value run_between x))))
    go (Value (Some y, Some z)) = subst Rising (sym (between_is y z)) (run_rises (not_negative (z -ℤ y +ℤ pos 1)) y)
    go (Value (Some y, None)) = tt
    go (Value (None, z)) = tt
    go (Refused d) = tt

-- a cast of a number
spelled_is : (o : Option ℤ) (z : ℤ) → or_no_cast o ≡ Value z → spelled IntAtom o ≡ Value (IntAtom z)
spelled_is None z e = cc
spelled_is (Some y) z e = ap (with_value IntAtom) e

cast_is : (a : Atom) (z : ℤ) → number_of a ≡ Value z → cast_atom k'.Integer a ≡ Value (IntAtom z)
cast_is (IntAtom y) z e = ap (with_value IntAtom) e
cast_is (UntypedAtom t) z e = spelled_is (integer_in t) z e
cast_is (TextAtom t) z e = cc
cast_is (BoolAtom b) z e = cc

cast_gives : (v : Cell) (z : ℤ) → number_of (atomized v) ≡ Value z → bare.value (f.CastTo k'.Integer) (v ∷ []) ≡ Gives (IntItem z)
cast_gives v z e = ap (λ x. outcome_of (with_value (λ b. item_of_atom b ∷ []) x)) (cast_is (atomized v) z e)

-- the rows of one pair of bounds
abbrev with_first : Row → List Row
with_first r = map (λ w. r ++ w ∷ []) (given (bare.value (f.CastTo k'.Integer) (cells_at bare beside_cols (column 2 ∷ []) r)))

abbrev with_second : Row → List Row
with_second r = map (λ w. r ++ w ∷ []) (given (bare.value (f.CastTo k'.Integer) (cells_at bare first_cast_cols (column 5 ∷ []) r)))

abbrev with_run : Row → List Row
with_run r = map (λ x. r ++ IntItem x ∷ []) (ints_between (bare.int_in (cell bare both_cast_cols (column 3) r)) (bare.int_in (cell bare both_cast_cols (column 6) r)))

abbrev out : Row → Row
out r = pick (columns (0 ∷ 1 ∷ 2 ∷ 4 ∷ 5 ∷ 3 ∷ 6 ∷ 7 ∷ [])) (pair 0 0 ∷ pair 2 7 ∷ []) r

abbrev bounds : ℕ → Cell → Cell → ℤ → ℤ → Row
bounds n u v y z = num n ∷ num 1 ∷ u ∷ num n ∷ v ∷ IntItem y ∷ IntItem z ∷ []

numbers : (n : ℕ) (u v : Cell) (y z : ℤ) (xs : List ℤ) → map out (map (λ x. bounds n u v y z ++ IntItem x ∷ []) xs ++ []) ≡ map (cell_row n) (map IntItem xs)
numbers n u v y z [] = refl
numbers n u v y z (x ∷ xs) = ap (λ l. cell_row n (IntItem x) ∷ l) (numbers n u v y z xs)

both_numbers : (n : ℕ) (u v : Cell) (y z : ℤ) → number_of (atomized u) ≡ Value y → number_of (atomized v) ≡ Value z → between_rows (side_at n (u ∷ []) (v ∷ [])) ≡ map (cell_row n) (run_at y z)
both_numbers n u v y z p q =
    let range = λ (rs : List Row). map out (range_rows bare (cell bare both_cast_cols (column 3)) (cell bare both_cast_cols (column 6)) rs) in
    let second = λ (x : Outcome Cell) (r : Row). map (λ w. r ++ w ∷ []) (given x) in
    let row = num n ∷ num 1 ∷ u ∷ num n ∷ v ∷ [] in
    ap (λ x. range (flat_map with_second (map (λ w. row ++ w ∷ []) (given x) ++ []))) (cast_gives u y p)
    ∙ ap (λ x. range (second x (row ++ IntItem y ∷ []) ++ [])) (cast_gives v z q)
    ∙ numbers n u v y z (ints_from y (not_negative (z -ℤ y +ℤ pos 1)))

abbrev runs_of : Answer ℤ → Answer ℤ → Answer Items
runs_of x y = with_value items_of (with_value run_between (both_of (with_value Some x) (with_value Some y)))

range_at : (n : ℕ) (us vs : Items) → fault_in (range_answer us vs) ≡ None → between_rows (side_at n us vs) ≡ map (cell_row n) (list_of (value_in (range_answer us vs)))
range_at n [] vs e = go (operand (data_of vs))
  where
    go : (x : Answer (Option ℤ)) → [] ≡ map (cell_row n) (list_of (value_in (with_value items_of (with_value run_between (both_of (Value None) x)))))
    go (Value z) = refl
    go (Refused d) = refl
range_at n (u ∷ []) [] e = go (number_of (atomized u))
  where
    go : (x : Answer ℤ) → [] ≡ map (cell_row n) (list_of (value_in (with_value items_of (with_value run_between (both_of (with_value Some x) (Value None))))))
    go (Value z) = refl
    go (Refused d) = refl
range_at n (u ∷ []) (v ∷ []) e = go (number_of (atomized u)) refl (number_of (atomized v)) refl e
  where
    go : (x : Answer ℤ) → number_of (atomized u) ≡ x → (y : Answer ℤ) → number_of (atomized v) ≡ y → fault_in (runs_of x y) ≡ None → between_rows (side_at n (u ∷ []) (v ∷ [])) ≡ map (cell_row n) (list_of (value_in (runs_of x y)))
    go (Value y) p (Value z) q k = both_numbers n u v y z p q ∙ ap (map (cell_row n)) (sym (between_is y z))
    go (Value y) p (Refused d) q k = cc
    go (Refused d) p (Value z) q k = cc
    go (Refused d) p (Refused d') q k = cc
range_at n (u ∷ []) (v ∷ w ∷ vs) e = go (number_of (atomized u)) e
  where
    go : (x : Answer ℤ) → fault_in (with_value items_of (with_value run_between (both_of (with_value Some x) (Refused c.XPTY0004)))) ≡ None → [] ≡ map (cell_row n) (list_of (value_in (with_value items_of (with_value run_between (both_of (with_value Some x) (Refused c.XPTY0004))))))
    go (Value z) k = refl
    go (Refused d) k = refl
range_at n (u ∷ w ∷ us) vs e = go (operand (data_of vs))
  where
    go : (x : Answer (Option ℤ)) → [] ≡ map (cell_row n) (list_of (value_in (with_value items_of (with_value run_between (both_of (Refused c.XPTY0004) x)))))
    go (Value z) = refl
    go (Refused d) = refl

only_calm : (n : ℕ) (us vs : Items) (b : Bool) → b ≡ calm (fault_in (range_answer us vs)) → between_rows (cond b (side_at n us vs) []) ≡ map (cell_row n) (list_of (value_in (range_answer us vs)))
only_calm n us vs true e = range_at n us vs (calm_none _ (sym e))
only_calm n us vs false e = ap (map (cell_row n)) (sym (none_given (range_answer us vs) (sym e)))

-- where no operand fails it has at most one item
calm_fits : (us vs : Items) → calm (fault_in (range_answer us vs)) ≡ true → fit us vs ≡ true
calm_fits us vs e = left us e
  where
    behind : (x : Answer (Option ℤ)) → calm (fault_in (with_value items_of (with_value run_between (both_of (Refused c.XPTY0004) x)))) ≡ true → false ≡ true
    behind (Value z) k = k
    behind (Refused d) k = k

    ahead : (x : Answer (Option ℤ)) → calm (fault_in (with_value items_of (with_value run_between (both_of x (Refused c.XPTY0004))))) ≡ true → false ≡ true
    ahead (Value z) k = k
    ahead (Refused d) k = k

    right : (x : Answer (Option ℤ)) (ws : Items) → calm (fault_in (with_value items_of (with_value run_between (both_of x (operand (data_of ws)))))) ≡ true → (not (has_two ws) && true) ≡ true
    right x [] k = refl
    right x (v ∷ []) k = refl
    right x (v ∷ w ∷ ws) k = ahead x k

    left : (ws : Items) → calm (fault_in (range_answer ws vs)) ≡ true → fit ws vs ≡ true
    left [] k = right (Value None) vs k
    left (u ∷ []) k = right (operand (data_of (u ∷ []))) vs k
    left (u ∷ w ∷ ws) k = behind (operand (data_of vs)) k

abbrev both : List Row → List Row → List Operand
both a b = (MaybeNumber, a) ∷ (MaybeNumber, b) ∷ []

answer_fault : (a b : List Row) (l : List Row) (h k : Iter → List Cell) (i : Iter) → fault_in (range_answer (h i) (k i)) ≡ first_coded (map first_mark (range_marks l a b)) (operand_tests (both a b) (h ∷ k ∷ [])) i
answer_fault a b l h k i = inside (both_of (operand (data_of (h i))) (operand (data_of (k i)))) ∙ fault_of_two MaybeNumber MaybeNumber a b h k i
  where
    inside : (x : Answer (Option ℤ × Option ℤ)) → fault_in (with_value items_of (with_value run_between x)) ≡ fault_in x
    inside (Value p) = refl
    inside (Refused d) = refl

module _ (its : List Iter) (h k : Iter → List Cell) (l a b : List Row) (asc : Ascends (λ i. i.number) 0 its) (sl : Same l (loop_rows its)) (sa : Same a (value_rows h its)) (sb : Same b (value_rows k its)) where
  abbrev tests : List (Iter → Bool)
  tests = operand_tests (both a b) (h ∷ k ∷ [])

  pub range_marked : AllMark (marked_rows (range_marks l a b)) (operand_tests (both a b) (h ∷ k ∷ [])) its
  range_marked = operands_mark its l asc sl (both a b) (h ∷ k ∷ []) (sa, (sb, tt))

  abbrev free : Iter → Bool
  free i = none_of (operand_tests (both a b) (h ∷ k ∷ [])) i

  free_is : (i : Iter) → free i ≡ calm (fault_in (range_answer (h i) (k i)))
  free_is i = none_first (range_marks l a b) (operand_tests (both a b) (h ∷ k ∷ [])) its i range_marked ∙ ap calm (sym (answer_fault a b l h k i))

  free_fits : (i : Iter) → free i ≡ true → fit (h i) (k i) ≡ true
  free_fits i e = calm_fits (h i) (k i) (sym (free_is i) ∙ e)

  abbrev given_at : Iter → List Cell
  given_at i = list_of (value_in (range_answer (h i) (k i)))

  left_loop : Same (calm_rows l (range_marks l a b)) (loop_rows (filter free its))
  left_loop = calm_stands its l asc sl (range_marks l a b) (operand_tests (both a b) (h ∷ k ∷ [])) range_marked

  runs_stand : Same (between_rows (bounds_rows l a b)) (flat_map (λ i. map (cell_row i.number) (given_at i)) its)
  runs_stand =
      let side = λ (i : Iter). cond (free i) (side_at i.number (h i) (k i)) [] in
      let s = sides_stand free h k its _ a b asc left_loop sa sb free_fits in
      same-trans (same-map out (same-flat with_run (same-flat with_second (same-flat with_first s))))
      (same-of (ap (λ rs. map out (flat_map with_run (flat_map with_second rs))) (flat-flat with_first side its)
      ∙ ap (λ rs. map out (flat_map with_run rs)) (flat-flat with_second (λ i. flat_map with_first (side i)) its)
      ∙ ap (map out) (flat-flat with_run (λ i. flat_map with_second (flat_map with_first (side i))) its)
      ∙ map-flat out (λ i. flat_map with_run (flat_map with_second (flat_map with_first (side i)))) its
      ∙ flat-all _ _ its (all_each _ (λ i. only_calm i.number (h i) (k i) (free i) (free_is i)) its)))

  range_stands : Same (range_value_rows l a b) (value_rows given_at its)
  range_stands = rising_stands given_at its _ asc (λ i. answer_rises (h i) (k i)) runs_stand

  runs_few : length (between_rows (bounds_rows l a b)) ≡ total (λ i. length (given_at i)) its
  runs_few =
      same-length runs_stand ∙ length-total (flat_map (λ i. map (cell_row i.number) (given_at i)) its) ∙ total-flat (λ r. 1) (λ i. map (cell_row i.number) (given_at i)) its
      ∙ total-all _ _ its (all_each _ (λ i. sym (length-total (map (cell_row i.number) (given_at i))) ∙ map_length (cell_row i.number) (given_at i)) its)

  left_few : length (restrict_rows (calm_rows l (range_marks l a b)) a) ≤ length a
  left_few = few_sided_left free h k its _ a b asc left_loop sa sb

  sides_few : length (bounds_rows l a b) ≤ length its
  sides_few = few_sides free h k its _ a b asc left_loop sa sb free_fits

module _ (docs : Docs) (s s1 s2 : State) (site : Site) (looped a b t : OpId) (cs : List Check) where
  abbrev L : List Row
  L = (at s looped).rows

  abbrev A : List Row
  A = (at s a).rows

  abbrev B : List Row
  B = (at s b).rows

  abbrev mids : List (List Row)
  mids = restrict_rows (calm_rows (at s looped).rows (range_marks (at s looped).rows (at s a).rows (at s b).rows)) (at s a).rows ∷ bounds_rows (at s looped).rows (at s a).rows (at s b).rows ∷ between_rows (bounds_rows (at s looped).rows (at s a).rows (at s b).rows) ∷ []

  within : (N : ℕ) → length (at s looped).rows + op_sizes s (a ∷ b ∷ []) ≤ N → AllOf (λ (j : List Row). length j ≤ N) mids → (range_most (at s looped).rows (at s a).rows (at s b).rows ≤ N) × (range_most (at s looped).rows (at s a).rows (at s b).rows ≤ N)
  within N q w =
      let l : length (at s looped).rows ≤ N = omega arith in
      let m : length (at s a).rows ≤ N = omega arith in
      let n : length (at s b).rows ≤ N = omega arith in
      let p : range_most (at s looped).rows (at s a).rows (at s b).rows ≤ N = max-le (max-le (max-le l m) (max-le n (max-le w.0 w.1.0))) w.1.1.0 in
      (p, p)

  pub range_call : Makes s s1 t three (range_value_rows (at s looped).rows (at s a).rows (at s b).rows) (range_most (at s looped).rows (at s a).rows (at s b).rows)
      → Stages site (range_most (at s looped).rows (at s a).rows (at s b).rows) s1 s2 (at s looped).rows (range_marks (at s looped).rows (at s a).rows (at s b).rows) cs
      → CallLifts docs s s2 site (Apply f.To) looped (a ∷ b ∷ []) t
  range_call m st =
      stages_within docs s s1 s2 site (Apply f.To) looped (a ∷ b ∷ []) t cs (range_marks L A B) mids (operand_tests (both A B)) refl ((omega arith, tt), (tt, tt)) (refl, (refl, tt)) _ _ _ m st within
      (λ its gs tree asc hl hp rooted.
      of_two s its (λ gs. AllMark (marked_rows (range_marks L A B)) (operand_tests (both A B) gs) its × AllOf (λ i. fault_in (call_answer docs site (Apply f.To) gs i) ≡ first_coded (map first_mark (range_marks L A B)) (operand_tests (both A B) gs) i) its) a b
      (λ h k ha hb. (range_marked its h k L A B asc hl.rows_are ha.rows_are hb.rows_are, all_each _ (λ i. answer_fault A B L h k i) its)) gs hp)
      (λ N its gs asc hl hp enough.
      of_two s its (λ gs. call_cost docs site (Apply f.To) gs its ≤ N → AllOf (λ (j : List Row). length j ≤ N) mids) a b
      (λ h k ha hb within'.
      let q = args_few docs s site (Apply f.To) looped (a ∷ b ∷ []) N its (h ∷ k ∷ []) hl (ha, (hb, tt)) within' in
      let z = same-length hl.rows_are ∙ size_loop its in
      let x = left_few its h k L A B asc hl.rows_are ha.rows_are hb.rows_are in
      let y = sides_few its h k L A B asc hl.rows_are ha.rows_are hb.rows_are in
      let w = runs_few its h k L A B asc hl.rows_are ha.rows_are hb.rows_are in
      let v = values_within docs site (Apply f.To) (h ∷ k ∷ []) its N within' in
      (omega arith, (omega arith, (omega arith, tt)))) gs hp enough)
      (λ its gs tree asc hl hp rooted z.
      of_two s its (λ gs. Same (range_value_rows L A B) (value_rows (λ i. list_of (value_in (call_answer docs site (Apply f.To) gs i))) its)) a b
      (λ h k ha hb. range_stands its h k L A B asc hl.rows_are ha.rows_are hb.rows_are) gs hp)
