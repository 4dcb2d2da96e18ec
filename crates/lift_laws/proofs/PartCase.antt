-- Calls of `substring` and `translate`, from the rows of their operators: two or three operands beside each other.
use Rattle.std.proofs.Common.{◌≡◌, ℕ, ◌+◌, ◌≤◌, Bool, true, false, cond, List, [], ◌∷◌, ◌++◌, length, map, max, refl, sym, ap, ◌∙◌, arith, Some, None, ℤ}
use Rattle.std.specs.List.{filter, flat_map}
use Rattle.std.proofs.Math.Nat.{max-le}
use Rattle.xq_base.specs.declared.code.Code.{Code}
use Rattle.xq_base.specs.declared.fun.Fun.{Fun}
use Rattle.xq_base.specs.declared.fun.Fun.TheVariants as f
use Rattle.xq_base.specs.Answers.{Answer, Value, Fault as Refused, with_value, both_of}
use Rattle.xq_base.specs.Texts.{Text}
use Rattle.xq_base.specs.Words.{text_part, text_mapped}
use Rattle.xq_base.specs.Atoms.{Atom}
use Rattle.xq_base.specs.TextRules.{text_list}
use Rattle.doc_table.specs.Items.{TextItem}
use Rattle.doc_table.specs.Values.{Items, items_of}
use Rattle.doc_table.specs.NodeRules.{Docs}
use Rattle.doc_table.specs.Functions.{fun_answer}
use Rattle.plan_dag.specs.declared.op.OpId.{OpId}
use Rattle.plan_dag.specs.declared.check.Check.{Check}
use Rattle.plan_dag.specs.Cells.{Outcome, Gives, Fails, Silent, given}
use Rattle.plan_dag.specs.ItemRules.{Cell, outcome_of}
use Rattle.plan_dag.specs.Meaning.{cell}
use Rattle.core_meaning.specs.Expr.{Site, Apply}
use Rattle.core_meaning.specs.Meaning.{value_in}
use Rattle.lift_laws.specs.Sums.{total, AllOf, Ascends, Same}
use Rattle.lift_laws.specs.Iterations.{Row, Iter, num, item_rows, value_rows, loop_rows}
use Rattle.lift_laws.specs.Bulk.{list_of}
use Rattle.lift_laws.specs.States.{State, at, Makes, column, three}
use Rattle.lift_laws.specs.Shapes.{bare, pair, columns, pick, restrict_rows}
use Rattle.lift_laws.specs.Stages.{Stages}
use Rattle.lift_laws.specs.Pairs.{beside_cols, side_rows}
use Rattle.lift_laws.specs.Readings.{Reading, MaybeText, OneNumber, OneText, Operand, operand_marks, calm_rows, sided_most}
use Rattle.lift_laws.specs.TextParts.{text_rows, part_marks, part_rows, part_most, third_rows, trio_cells, trio_value_rows, TrioRule, Parts, Maps, trio_fun, trio_marks, trio_rows, trio_most}
use Rattle.lift_laws.specs.Lifting.{CallLifts, call_answer}
use Rattle.lift_laws.proofs.Multi.{same-of, same-trans, same-map, same-flat, same-length, length-total, total-flat}
use Rattle.lift_laws.proofs.Picks.{all_each, flat-all, flat-flat, map-flat}
use Rattle.lift_laws.proofs.Sizes.{size_loop, total_most}
use Rattle.lift_laws.proofs.Loops.{same-join}
use Rattle.lift_laws.proofs.Marks.{join_iters, fault_in}
use Rattle.lift_laws.proofs.Cleared.{none_of, AllMark}
use Rattle.lift_laws.proofs.Staged.{op_sizes}
use Rattle.lift_laws.proofs.Stagings.{first_coded, first_mark, marked_rows, stages_call}
use Rattle.lift_laws.proofs.PairRows.{fit, side_at, sides_stand, few_sided_left, few_sides, side_values_stand, given_at, fill, filled_stands, few_filled}
use Rattle.lift_laws.proofs.PairCase.{OneAtMost, shown}
use Rattle.lift_laws.proofs.Arguments.{of_two, of_three}
use Rattle.lift_laws.proofs.ReadingCase.{ReadAs, read_as, operand_tests, operands_mark, operands_first, operands_ranked, operands_dynamic, calm_stands, calm, calm_none, none_first, fault_of_two, fault_of_three, Single, number_single, text_single, filled_single, filled_read, both_calm, where_calm}

inner_fault : {A : Type 0} (F : A → List Atom) (x : Answer A) → fault_in (with_value items_of (with_value F x)) ≡ fault_in x
inner_fault F (Value a) = refl
inner_fault F (Refused d) = refl

inner_one : {A : Type 0} (F : A → List Atom) → ((a : A) → OneAtMost (Value (items_of (F a)))) → (x : Answer A) → OneAtMost (with_value items_of (with_value F x))
inner_one F one (Value a) = one a
inner_one F one (Refused d) = tt

abbrev empty : Cell
empty = TextItem []

-- a text and a start
abbrev part_in : Text × ℤ → List Atom
part_in p = text_list (text_part p.0 p.1 None)

abbrev part_answer : Items → Items → Answer Items
part_answer us vs = with_value items_of (with_value part_in (both_of (read_as MaybeText us) (read_as OneNumber vs)))

abbrev BothSingle : Items → Items → Type 0
BothSingle us vs = Single (fill empty us) × Single vs

both_single : (us vs : Items) → fault_in (part_answer us vs) ≡ None → BothSingle us vs
both_single us vs e =
    let k = both_calm (read_as MaybeText us) (read_as OneNumber vs) (sym (inner_fault part_in (both_of (read_as MaybeText us) (read_as OneNumber vs))) ∙ e) in
    (filled_single us k.0, number_single vs k.1)

part_value : (us vs : Items) → fault_in (part_answer us vs) ≡ None → given_at f.Substring (fill empty us) vs ≡ list_of (value_in (part_answer us vs))
part_value us vs e =
    let k = both_single us vs e in
    let u = k.0.0 in
    let v = k.1.0 in
    ap (λ x. given_at f.Substring x vs) k.0.1 ∙ ap (given_at f.Substring (u ∷ [])) k.1.1
    ∙ shown (part_answer (u ∷ []) (v ∷ [])) (inner_one part_in (λ p. tt) (both_of (read_as MaybeText (u ∷ [])) (read_as OneNumber (v ∷ []))))
    ∙ ap (λ x. list_of (value_in (part_answer x (v ∷ [])))) (sym k.0.1) ∙ ap (λ x. list_of (value_in (part_answer (fill empty us) x))) (sym k.1.1)
    ∙ ap (λ x. list_of (value_in (with_value items_of (with_value part_in (both_of x (read_as OneNumber vs)))))) (filled_read us)

part_fits : (us vs : Items) → fault_in (part_answer us vs) ≡ None → fit (fill empty us) vs ≡ true
part_fits us vs e =
    let k = both_single us vs e in
    ap (λ x. fit x vs) k.0.1 ∙ ap (fit (k.0.0 ∷ [])) k.1.1

abbrev part_operands : List Row → List Row → List Operand
part_operands a b = (MaybeText, a) ∷ (OneNumber, b) ∷ []

module _ (its : List Iter) (h k : Iter → List Cell) (l a b : List Row) (asc : Ascends (λ i. i.number) 0 its) (sl : Same l (loop_rows its)) (sa : Same a (value_rows h its)) (sb : Same b (value_rows k its)) where
  abbrev tests : List (Iter → Bool)
  tests = operand_tests (part_operands a b) (h ∷ k ∷ [])

  part_marked : AllMark (marked_rows (part_marks l a b)) (operand_tests (part_operands a b) (h ∷ k ∷ [])) its
  part_marked = operands_mark its l asc sl (part_operands a b) (h ∷ k ∷ []) (sa, (sb, tt))

  part_fault : (i : Iter) → fault_in (part_answer (h i) (k i)) ≡ first_coded (map first_mark (part_marks l a b)) (operand_tests (part_operands a b) (h ∷ k ∷ [])) i
  part_fault i =
      inner_fault part_in (both_of (read_as MaybeText (h i)) (read_as OneNumber (k i))) ∙ fault_of_two MaybeText OneNumber a b h k i
      ∙ sym (operands_first its l asc sl (part_operands a b) (h ∷ k ∷ []) i (sa, (sb, tt)))

  abbrev free : Iter → Bool
  free i = none_of (operand_tests (part_operands a b) (h ∷ k ∷ [])) i

  free_is : (i : Iter) → free i ≡ calm (fault_in (part_answer (h i) (k i)))
  free_is i = none_first (part_marks l a b) (operand_tests (part_operands a b) (h ∷ k ∷ [])) its i part_marked ∙ ap calm (sym (part_fault i))

  free_fits : (i : Iter) → free i ≡ true → fit (fill empty (h i)) (k i) ≡ true
  free_fits i e = part_fits (h i) (k i) (calm_none (fault_in (part_answer (h i) (k i))) (sym (free_is i) ∙ e))

  filled : Same (text_rows l a) (value_rows (λ i. fill empty (h i)) its)
  filled = filled_stands empty h its l a asc sl sa

  left_loop : Same (calm_rows l (part_marks l a b)) (loop_rows (filter free its))
  left_loop = calm_stands its l asc sl (part_marks l a b) (operand_tests (part_operands a b) (h ∷ k ∷ [])) part_marked

  part_stands : Same (part_rows l a b) (value_rows (λ i. list_of (value_in (part_answer (h i) (k i)))) its)
  part_stands =
      same-trans (side_values_stand f.Substring free (λ i. fill empty (h i)) k its _ (sides_stand free (λ i. fill empty (h i)) k its _ _ b asc left_loop filled sb free_fits))
      (same-of (flat-all _ _ its (all_each _ (λ i. ap (item_rows i.number 1) (where_calm (part_answer (h i) (k i)) (free i) (given_at f.Substring (fill empty (h i)) (k i)) (free_is i) (part_value (h i) (k i)))) its)))

  part_few : AllOf (λ (j : List Row). length j ≤ length l + length a + length b) (text_rows l a ∷ restrict_rows (calm_rows l (part_marks l a b)) (text_rows l a) ∷ side_rows (calm_rows l (part_marks l a b)) (text_rows l a) b ∷ [])
  part_few =
      let x = few_filled empty h its l a asc sl sa in
      let y = few_sided_left free (λ i. fill empty (h i)) k its _ _ b asc left_loop filled sb in
      let z = few_sides free (λ i. fill empty (h i)) k its _ _ b asc left_loop filled sb free_fits in
      let n = same-length sl ∙ size_loop its in
      (omega arith, (omega arith, (omega arith, tt)))

pub part_call : (docs : Docs) (s s1 s2 : State) (site : Site) (looped a b t : OpId) (cs : List Check)
    → Makes s s1 t three (part_rows (at s looped).rows (at s a).rows (at s b).rows) (part_most (at s looped).rows (at s a).rows (at s b).rows)
    → Stages site (part_most (at s looped).rows (at s a).rows (at s b).rows) s1 s2 (at s looped).rows (part_marks (at s looped).rows (at s a).rows (at s b).rows) cs
    → CallLifts docs s s2 site (Apply f.Substring) looped (a ∷ b ∷ []) t
part_call docs s s1 s2 site looped a b t cs m st =
    stages_call docs s s1 s2 site (Apply f.Substring) looped (a ∷ b ∷ []) t cs (part_marks L A B)
    (text_rows L A ∷ restrict_rows (calm_rows L (part_marks L A B)) (text_rows L A) ∷ side_rows (calm_rows L (part_marks L A B)) (text_rows L A) B ∷ [])
    (operand_tests (part_operands A B)) refl (operands_ranked L (part_operands A B)) (operands_dynamic L (part_operands A B)) _ _ _ m st within
    (λ its gs tree asc hl hp rooted.
    of_two s its (λ gs. AllMark (marked_rows (part_marks L A B)) (operand_tests (part_operands A B) gs) its × AllOf (λ i. fault_in (call_answer docs site (Apply f.Substring) gs i) ≡ first_coded (map first_mark (part_marks L A B)) (operand_tests (part_operands A B) gs) i) its) a b
    (λ h k ha hb. (part_marked its h k L A B asc hl.rows_are ha.rows_are hb.rows_are, all_each _ (λ i. part_fault its h k L A B asc hl.rows_are ha.rows_are hb.rows_are i) its)) gs hp)
    (λ its gs asc hl hp.
    of_two s its (λ gs. AllOf (λ (j : List Row). length j ≤ length L + op_sizes s (a ∷ b ∷ [])) (text_rows L A ∷ restrict_rows (calm_rows L (part_marks L A B)) (text_rows L A) ∷ side_rows (calm_rows L (part_marks L A B)) (text_rows L A) B ∷ [])) a b
    (λ h k ha hb.
    let w = part_few its h k L A B asc hl.rows_are ha.rows_are hb.rows_are in
    let x = w.0 in
    let y = w.1.0 in
    let z = w.1.1.0 in
    (omega arith, (omega arith, (omega arith, tt)))) gs hp)
    (λ its gs tree asc hl hp rooted z.
    of_two s its (λ gs. Same (part_rows L A B) (value_rows (λ i. list_of (value_in (call_answer docs site (Apply f.Substring) gs i))) its)) a b
    (λ h k ha hb. part_stands its h k L A B asc hl.rows_are ha.rows_are hb.rows_are) gs hp)
  where
    L : List Row
    L = (at s looped).rows

    A : List Row
    A = (at s a).rows

    B : List Row
    B = (at s b).rows

    within : (N : ℕ) → length L + op_sizes s (a ∷ b ∷ []) ≤ N → AllOf (λ (j : List Row). length j ≤ N) (text_rows L A ∷ restrict_rows (calm_rows L (part_marks L A B)) (text_rows L A) ∷ side_rows (calm_rows L (part_marks L A B)) (text_rows L A) B ∷ []) → (part_most L A B ≤ N) × (part_most L A B ≤ N)
    within N q w =
        let x : length L + length A ≤ N = omega arith in
        let l : length L ≤ N = omega arith in
        let n : length B ≤ N = omega arith in
        let p : part_most L A B ≤ N = max-le x (max-le (max-le l w.0) (max-le n (max-le w.1.0 w.1.1.0))) in
        (p, p)

-- three items beside each other
abbrev trio_side : ℕ → Items → Items → Items → List Row
trio_side n (u ∷ []) (v ∷ []) (w ∷ []) = (num n ∷ num 1 ∷ u ∷ num n ∷ v ∷ num n ∷ w ∷ []) ∷ []
trio_side n _ _ _ = []

abbrev trio_at : Fun → Items → Items → Items → Items
trio_at g (u ∷ []) (v ∷ []) (w ∷ []) = given (bare.value g (u ∷ v ∷ w ∷ []))
trio_at g _ _ _ = []

abbrev moved : Row → Row
moved r = pick three (pair 6 0 ∷ pair 7 2 ∷ []) r

moved_key : (n k : ℕ) (vs : List Cell) → AllOf (λ r. cell bare (columns (6 ∷ 7 ∷ [])) (column 6) r ≡ num n) (map moved (item_rows n k vs))
moved_key n k [] = tt
moved_key n k (v ∷ vs) = (refl, moved_key n (k + 1) vs)

abbrev sides : Bool → ℕ → Items → Items → List Row
sides b n us vs = cond b (side_at n us vs) []

side_key : (b : Bool) (n : ℕ) (us vs : Items) → AllOf (λ r. cell bare beside_cols (column 0) r ≡ num n) (sides b n us vs)
side_key true n [] vs = tt
side_key true n (u ∷ []) [] = tt
side_key true n (u ∷ []) (v ∷ []) = (refl, tt)
side_key true n (u ∷ []) (v ∷ w ∷ vs) = tt
side_key true n (u ∷ w ∷ us) vs = tt
side_key false n us vs = tt

abbrev beside_third : ℕ → Items → List Row → List Row
beside_third n ws rs = flat_map (λ l. map (λ r. l ++ r) (map moved (item_rows n 1 ws))) rs

third_at : (b : Bool) (n : ℕ) (us vs ws : Items) → (b ≡ true → Single us × Single vs × Single ws) → beside_third n ws (sides b n us vs) ≡ cond b (trio_side n us vs ws) []
third_at true n us vs ws k =
    let s = k refl in
    ap (λ x. beside_third n ws (side_at n x vs)) s.0.1 ∙ ap (λ x. beside_third n ws (side_at n (s.0.0 ∷ []) x)) s.1.1 ∙ ap (λ x. beside_third n x (side_at n (s.0.0 ∷ []) (s.1.0 ∷ []))) s.2.1
    ∙ sym (ap (λ x. trio_side n x vs ws) s.0.1 ∙ ap (λ x. trio_side n (s.0.0 ∷ []) x ws) s.1.1 ∙ ap (trio_side n (s.0.0 ∷ []) (s.1.0 ∷ [])) s.2.1)
third_at false n us vs ws k = refl

abbrev out : Row → Row
out r = pick (columns (0 ∷ 1 ∷ 2 ∷ 4 ∷ 5 ∷ 6 ∷ 7 ∷ 3 ∷ [])) (pair 0 0 ∷ pair 1 1 ∷ pair 2 3 ∷ []) r

abbrev with_trio : Fun → Row → List Row
with_trio g r = map (λ v. r ++ v ∷ []) (given (bare.value g (trio_cells r)))

trio_given : (g : Fun) (n : ℕ) (u v w : Cell) → map out (flat_map (with_trio g) (trio_side n (u ∷ []) (v ∷ []) (w ∷ []))) ≡ item_rows n 1 (trio_at g (u ∷ []) (v ∷ []) (w ∷ []))
trio_given g n u v w = go (bare.value g (u ∷ v ∷ w ∷ []))
  where
    go : (x : Outcome Cell) → map out (map (λ y. (num n ∷ num 1 ∷ u ∷ num n ∷ v ∷ num n ∷ w ∷ []) ++ y ∷ []) (given x) ++ []) ≡ item_rows n 1 (given x)
    go (Gives y) = refl
    go (Fails d) = refl
    go Silent = refl

-- a function of three operands, of which the first is a text that may be absent and the others are there
module _ (g : Fun) (r t : Reading) (single_r : (vs : Items) → fault_in (read_as r vs) ≡ None → Single vs) (single_t : (vs : Items) → fault_in (read_as t vs) ≡ None → Single vs)
    (F : (Text × ReadAs r) × ReadAs t → List Atom) (one : (p : (Text × ReadAs r) × ReadAs t) → OneAtMost (Value (items_of (F p)))) where
  abbrev answer : Items → Items → Items → Answer Items
  answer us vs ws = with_value items_of (with_value F (both_of (both_of (read_as MaybeText us) (read_as r vs)) (read_as t ws)))

  abbrev AllSingle : Items → Items → Items → Type 0
  AllSingle us vs ws = Single (fill empty us) × Single vs × Single ws

  all_single : (us vs ws : Items) → fault_in (answer us vs ws) ≡ None → AllSingle us vs ws
  all_single us vs ws e =
      let k = both_calm (both_of (read_as MaybeText us) (read_as r vs)) (read_as t ws) (sym (inner_fault F (both_of (both_of (read_as MaybeText us) (read_as r vs)) (read_as t ws))) ∙ e) in
      let j = both_calm (read_as MaybeText us) (read_as r vs) k.0 in
      (filled_single us j.0, single_r vs j.1, single_t ws k.1)

  module _ (outcome : (u v w : Cell) → bare.value g (u ∷ v ∷ w ∷ []) ≡ outcome_of (answer (u ∷ []) (v ∷ []) (w ∷ []))) where
    trio_value : (us vs ws : Items) → fault_in (answer us vs ws) ≡ None → trio_at g (fill empty us) vs ws ≡ list_of (value_in (answer us vs ws))
    trio_value us vs ws e =
        let k = all_single us vs ws e in
        let u = k.0.0 in
        let v = k.1.0 in
        let w = k.2.0 in
        ap (λ x. trio_at g x vs ws) k.0.1 ∙ ap (λ x. trio_at g (u ∷ []) x ws) k.1.1 ∙ ap (trio_at g (u ∷ []) (v ∷ [])) k.2.1
        ∙ ap given (outcome u v w)
        ∙ shown (answer (u ∷ []) (v ∷ []) (w ∷ [])) (inner_one F one (both_of (both_of (read_as MaybeText (u ∷ [])) (read_as r (v ∷ []))) (read_as t (w ∷ []))))
        ∙ ap (λ x. list_of (value_in (answer x (v ∷ []) (w ∷ [])))) (sym k.0.1) ∙ ap (λ x. list_of (value_in (answer (fill empty us) x (w ∷ [])))) (sym k.1.1) ∙ ap (λ x. list_of (value_in (answer (fill empty us) vs x))) (sym k.2.1)
        ∙ ap (λ x. list_of (value_in (with_value items_of (with_value F (both_of (both_of x (read_as r vs)) (read_as t ws)))))) (filled_read us)

    abbrev operands : List Row → List Row → List Row → List Operand
    operands a b d = (MaybeText, a) ∷ (r, b) ∷ (t, d) ∷ []

    abbrev marks : List Row → List Row → List Row → List Row → List (Code × List Row)
    marks l a b d = operand_marks l (operands a b d)

    abbrev sided : List Row → List Row → List Row → List Row → List Row
    sided l a b d = side_rows (calm_rows l (marks l a b d)) (text_rows l a) b

    abbrev rows : List Row → List Row → List Row → List Row → List Row
    rows l a b d = third_rows (sided l a b d) d

    module _ (its : List Iter) (h k j : Iter → List Cell) (l a b d : List Row) (asc : Ascends (λ i. i.number) 0 its) (sl : Same l (loop_rows its)) (sa : Same a (value_rows h its)) (sb : Same b (value_rows k its)) (sd : Same d (value_rows j its)) where
      pub trio_marked : AllMark (marked_rows (marks l a b d)) (operand_tests (operands a b d) (h ∷ k ∷ j ∷ [])) its
      trio_marked = operands_mark its l asc sl (operands a b d) (h ∷ k ∷ j ∷ []) (sa, (sb, (sd, tt)))

      pub trio_fault : (i : Iter) → fault_in (answer (h i) (k i) (j i)) ≡ first_coded (map first_mark (marks l a b d)) (operand_tests (operands a b d) (h ∷ k ∷ j ∷ [])) i
      trio_fault i =
          inner_fault F (both_of (both_of (read_as MaybeText (h i)) (read_as r (k i))) (read_as t (j i))) ∙ fault_of_three MaybeText r t a b d h k j i
          ∙ sym (operands_first its l asc sl (operands a b d) (h ∷ k ∷ j ∷ []) i (sa, (sb, (sd, tt))))

      abbrev loose : Iter → Bool
      loose i = none_of (operand_tests (operands a b d) (h ∷ k ∷ j ∷ [])) i

      loose_is : (i : Iter) → loose i ≡ calm (fault_in (answer (h i) (k i) (j i)))
      loose_is i = none_first (marks l a b d) (operand_tests (operands a b d) (h ∷ k ∷ j ∷ [])) its i trio_marked ∙ ap calm (sym (trio_fault i))

      loose_single : (i : Iter) → loose i ≡ true → AllSingle (h i) (k i) (j i)
      loose_single i e = all_single (h i) (k i) (j i) (calm_none (fault_in (answer (h i) (k i) (j i))) (sym (loose_is i) ∙ e))

      loose_fits : (i : Iter) → loose i ≡ true → fit (fill empty (h i)) (k i) ≡ true
      loose_fits i e =
          let s = loose_single i e in
          ap (λ x. fit x (k i)) s.0.1 ∙ ap (fit (s.0.0 ∷ [])) s.1.1

      texts_stand : Same (text_rows l a) (value_rows (λ i. fill empty (h i)) its)
      texts_stand = filled_stands empty h its l a asc sl sa

      loop_left : Same (calm_rows l (marks l a b d)) (loop_rows (filter loose its))
      loop_left = calm_stands its l asc sl (marks l a b d) (operand_tests (operands a b d) (h ∷ k ∷ j ∷ [])) trio_marked

      two_stand : Same (sided l a b d) (flat_map (λ i. sides (loose i) i.number (fill empty (h i)) (k i)) its)
      two_stand = sides_stand loose (λ i. fill empty (h i)) k its _ _ b asc loop_left texts_stand sb loose_fits

      abbrev trios : Iter → List Row
      trios i = cond (loose i) (trio_side i.number (fill empty (h i)) (k i) (j i)) []

      three_stand : Same (rows l a b d) (flat_map trios its)
      three_stand =
          let L = λ (i : Iter). sides (loose i) i.number (fill empty (h i)) (k i) in
          let R = λ (i : Iter). map moved (item_rows i.number 1 (j i)) in
          let right = same-trans (same-map moved sd) (same-of (map-flat moved (λ i. item_rows i.number 1 (j i)) its)) in
          same-trans (same-join beside_cols (columns (6 ∷ 7 ∷ [])) (column 0) (column 6) two_stand right)
          (same-trans (join_iters (cell bare beside_cols (column 0)) (cell bare (columns (6 ∷ 7 ∷ [])) (column 6)) L R its asc (λ i. side_key (loose i) i.number (fill empty (h i)) (k i)) (λ i. moved_key i.number 1 (j i)))
          (same-of (flat-all _ _ its (all_each _ (λ i. third_at (loose i) i.number (fill empty (h i)) (k i) (j i) (loose_single i)) its))))

      given_trio : (i : Iter) (b' : Bool) → b' ≡ loose i → map out (flat_map (with_trio g) (cond b' (trio_side i.number (fill empty (h i)) (k i) (j i)) [])) ≡ item_rows i.number 1 (cond b' (trio_at g (fill empty (h i)) (k i) (j i)) [])
      given_trio i false e = refl
      given_trio i true e =
          let s = loose_single i (sym e) in
          let whole = λ (us vs ws : Items). map out (flat_map (with_trio g) (trio_side i.number us vs ws)) in
          let shown' = λ (us vs ws : Items). item_rows i.number 1 (trio_at g us vs ws) in
          ap (λ x. whole x (k i) (j i)) s.0.1 ∙ ap (λ x. whole (s.0.0 ∷ []) x (j i)) s.1.1 ∙ ap (whole (s.0.0 ∷ []) (s.1.0 ∷ [])) s.2.1
          ∙ trio_given g i.number s.0.0 s.1.0 s.2.0
          ∙ sym (ap (λ x. shown' x (k i) (j i)) s.0.1 ∙ ap (λ x. shown' (s.0.0 ∷ []) x (j i)) s.1.1 ∙ ap (shown' (s.0.0 ∷ []) (s.1.0 ∷ [])) s.2.1)

      pub trio_stands : Same (trio_value_rows g (rows l a b d)) (value_rows (λ i. list_of (value_in (answer (h i) (k i) (j i)))) its)
      trio_stands =
          same-trans (same-map out (same-flat (with_trio g) three_stand))
          (same-of (ap (map out) (flat-flat (with_trio g) trios its)
          ∙ map-flat out (λ i. flat_map (with_trio g) (trios i)) its
          ∙ flat-all _ _ its (all_each _ (λ i. given_trio i (loose i) refl ∙ ap (item_rows i.number 1) (where_calm (answer (h i) (k i) (j i)) (loose i) (trio_at g (fill empty (h i)) (k i) (j i)) (loose_is i) (trio_value (h i) (k i) (j i)))) its)))

      pub trio_few : AllOf (λ (z : List Row). length z ≤ length l + length a + length b + length d) (text_rows l a ∷ restrict_rows (calm_rows l (marks l a b d)) (text_rows l a) ∷ sided l a b d ∷ rows l a b d ∷ [])
      trio_few =
          let x = few_filled empty h its l a asc sl sa in
          let y = few_sided_left loose (λ i. fill empty (h i)) k its _ _ b asc loop_left texts_stand sb in
          let z = few_sides loose (λ i. fill empty (h i)) k its _ _ b asc loop_left texts_stand sb loose_fits in
          let v = same-length three_stand ∙ length-total (flat_map trios its) ∙ total-flat (λ q. 1) trios its in
          let w = total_most (λ i. total (λ (q : Row). 1) (trios i)) (λ i. 1) its (λ i. most_one (loose i) i) in
          let u = length-total its in
          let n = same-length sl ∙ size_loop its in
          (omega arith, (omega arith, (omega arith, (omega arith, tt))))
        where
          one_row : (n : ℕ) (us vs ws : Items) → total (λ (q : Row). 1) (trio_side n us vs ws) ≤ 1
          one_row n [] vs ws = omega arith
          one_row n (u ∷ []) [] ws = omega arith
          one_row n (u ∷ []) (v ∷ []) [] = omega arith
          one_row n (u ∷ []) (v ∷ []) (w ∷ []) = omega arith
          one_row n (u ∷ []) (v ∷ []) (w ∷ x ∷ ws) = omega arith
          one_row n (u ∷ []) (v ∷ x ∷ vs) ws = omega arith
          one_row n (u ∷ x ∷ us) vs ws = omega arith

          most_one : (b' : Bool) (i : Iter) → total (λ (q : Row). 1) (cond b' (trio_side i.number (fill empty (h i)) (k i) (j i)) []) ≤ 1
          most_one true i = one_row i.number (fill empty (h i)) (k i) (j i)
          most_one false i = omega arith

    module _ (docs : Docs) (s s1 s2 : State) (site : Site) (looped a b d t' : OpId) (cs : List Check) (is : (us vs ws : Items) → fun_answer docs g (us ∷ vs ∷ ws ∷ []) ≡ answer us vs ws) where
      abbrev L : List Row
      L = (at s looped).rows

      abbrev A : List Row
      A = (at s a).rows

      abbrev B : List Row
      B = (at s b).rows

      abbrev D : List Row
      D = (at s d).rows

      abbrev most : ℕ
      most = max (length L + length A + length D) (max (sided_most L (calm_rows L (marks L A B D)) (text_rows L A) B) (length (rows L A B D)))

      abbrev mids : List (List Row)
      mids = text_rows L A ∷ restrict_rows (calm_rows L (marks L A B D)) (text_rows L A) ∷ sided L A B D ∷ rows L A B D ∷ []

      within : (N : ℕ) → length L + op_sizes s (a ∷ b ∷ d ∷ []) ≤ N → AllOf (λ (j : List Row). length j ≤ N) mids → (most ≤ N) × (most ≤ N)
      within N q w =
          let x : length L + length A + length D ≤ N = omega arith in
          let l : length L ≤ N = omega arith in
          let n : length B ≤ N = omega arith in
          let p : most ≤ N = max-le x (max-le (max-le (max-le l w.0) (max-le n (max-le w.1.0 w.1.1.0))) w.1.1.1.0) in
          (p, p)

      trio_call : Makes s s1 t' three (trio_value_rows g (rows L A B D)) most → Stages site most s1 s2 L (marks L A B D) cs → CallLifts docs s s2 site (Apply g) looped (a ∷ b ∷ d ∷ []) t'
      trio_call m st =
          stages_call docs s s1 s2 site (Apply g) looped (a ∷ b ∷ d ∷ []) t' cs (marks L A B D) mids (operand_tests (operands A B D)) refl (operands_ranked L (operands A B D)) (operands_dynamic L (operands A B D)) _ _ _ m st within
          (λ its gs tree asc hl hp rooted.
          of_three s its (λ gs. AllMark (marked_rows (marks L A B D)) (operand_tests (operands A B D) gs) its × AllOf (λ i. fault_in (call_answer docs site (Apply g) gs i) ≡ first_coded (map first_mark (marks L A B D)) (operand_tests (operands A B D) gs) i) its) a b d
          (λ h k j ha hb hd. (
            trio_marked its h k j L A B D asc hl.rows_are ha.rows_are hb.rows_are hd.rows_are,
            all_each _ (λ i. ap fault_in (is (h i) (k i) (j i)) ∙ trio_fault its h k j L A B D asc hl.rows_are ha.rows_are hb.rows_are hd.rows_are i) its,
          )) gs hp)
          (λ its gs asc hl hp.
          of_three s its (λ gs. AllOf (λ (j : List Row). length j ≤ length L + op_sizes s (a ∷ b ∷ d ∷ [])) mids) a b d
          (λ h k j ha hb hd.
          let w = trio_few its h k j L A B D asc hl.rows_are ha.rows_are hb.rows_are hd.rows_are in
          let x = w.0 in
          let y = w.1.0 in
          let z = w.1.1.0 in
          let v = w.1.1.1.0 in
          (omega arith, (omega arith, (omega arith, (omega arith, tt))))) gs hp)
          (λ its gs tree asc hl hp rooted z.
          of_three s its (λ gs. Same (trio_value_rows g (rows L A B D)) (value_rows (λ i. list_of (value_in (call_answer docs site (Apply g) gs i))) its)) a b d
          (λ h k j ha hb hd.
          same-trans (trio_stands its h k j L A B D asc hl.rows_are ha.rows_are hb.rows_are hd.rows_are)
          (same-of (flat-all _ _ its (all_each _ (λ i. ap (λ x. item_rows i.number 1 (list_of (value_in x))) (sym (is (h i) (k i) (j i)))) its)))) gs hp)

abbrev pub long_part : (Text × ℤ) × ℤ → List Atom
long_part p = text_list (text_part p.0.0 p.0.1 (Some p.1))

abbrev mapped_text : (Text × Text) × Text → List Atom
mapped_text p = text_list (text_mapped p.0.0 p.0.1 p.1)

pub trio_rule_call : (docs : Docs) (s s1 s2 : State) (site : Site) (q : TrioRule) (looped a b d t : OpId) (cs : List Check)
    → Makes s s1 t three (trio_value_rows (trio_fun q) (trio_rows q (at s looped).rows (at s a).rows (at s b).rows (at s d).rows)) (trio_most q (at s looped).rows (at s a).rows (at s b).rows (at s d).rows)
    → Stages site (trio_most q (at s looped).rows (at s a).rows (at s b).rows (at s d).rows) s1 s2 (at s looped).rows (trio_marks q (at s looped).rows (at s a).rows (at s b).rows (at s d).rows) cs
    → CallLifts docs s s2 site (Apply (trio_fun q)) looped (a ∷ b ∷ d ∷ []) t
trio_rule_call docs s s1 s2 site Parts looped a b d t cs m st =
    trio_call f.Substring OneNumber OneNumber number_single number_single long_part (λ p. tt) (λ u v w. refl) docs s s1 s2 site looped a b d t cs (λ us vs ws. refl) m st
trio_rule_call docs s s1 s2 site Maps looped a b d t cs m st =
    trio_call f.Translate OneText OneText text_single text_single mapped_text (λ p. tt) (λ u v w. refl) docs s s1 s2 site looped a b d t cs (λ us vs ws. refl) m st
