-- Calls of `insert-before`, from the rows of their operators: items before a place, others, and items from the place on.
use Rattle.std.proofs.Common.{◌≡◌, ℕ, ◌+◌, ◌≤◌, Bool, true, false, cond, not, List, [], ◌∷◌, ◌++◌, length, map, refl, sym, ap, ◌∙◌, arith, None, ℤ, pos, negsuc, int_lt, length-append}
use Rattle.std.proofs.Math.Nat.{max-le}
use Rattle.std.proofs.lemmas.Bool.{ltb-false, le-ltb}
use Rattle.xq_base.specs.declared.fun.Fun.TheVariants as f
use Rattle.xq_base.specs.declared.fun.CompOp.TheVariants as o
use Rattle.xq_base.specs.Answers.{Answer, with_value}
use Rattle.xq_base.specs.Words.{at_places}
use Rattle.xq_base.specs.TextRules.{one_number}
use Rattle.doc_table.specs.Values.{Items, data_of}
use Rattle.doc_table.specs.Sequences.{insert_at}
use Rattle.doc_table.specs.NodeRules.{Docs}
use Rattle.plan_dag.specs.declared.op.OpId.{OpId}
use Rattle.plan_dag.specs.declared.check.Check.{Check}
use Rattle.plan_dag.specs.ItemRules.{Cell}
use Rattle.core_meaning.specs.Expr.{Site, Apply}
use Rattle.core_meaning.specs.Meaning.{value_in}
use Rattle.lift_laws.specs.Sums.{AllOf, Ascends, Same}
use Rattle.lift_laws.specs.Iterations.{Row, Iter, item_rows, value_rows, loop_rows}
use Rattle.lift_laws.specs.Bulk.{list_of}
use Rattle.lift_laws.specs.States.{State, at, Makes, three}
use Rattle.lift_laws.specs.Shapes.{restrict_rows}
use Rattle.lift_laws.specs.Stages.{Stages}
use Rattle.lift_laws.specs.Readings.{OneNumber}
use Rattle.lift_laws.specs.Places.{OfPlaces, place_marks, place_loop, beside_place, inserted_rows, inserted_most}
use Rattle.lift_laws.specs.Lifting.{CallLifts, call_answer, call_faults}
use Rattle.lift_laws.proofs.Multi.{same-of, same-trans, same-length, total-sum}
use Rattle.lift_laws.proofs.Picks.{all_each, all_mono, flat-all}
use Rattle.lift_laws.proofs.Sizes.{size_cells, total_most}
use Rattle.lift_laws.proofs.Keeping.{append_none}
use Rattle.lift_laws.proofs.Simple.{seq_stands}
use Rattle.lift_laws.proofs.Marks.{fault_in}
use Rattle.lift_laws.proofs.Cleared.{AllMark}
use Rattle.lift_laws.proofs.Staged.{op_sizes}
use Rattle.lift_laws.proofs.Stagings.{first_coded, first_mark, marked_rows, calm_calls, stages_call}
use Rattle.lift_laws.proofs.Arguments.{of_three}
use Rattle.lift_laws.proofs.ReadingCase.{with_fault, operands_ranked, operands_dynamic, calm}
use Rattle.lift_laws.proofs.Renumber.{items_in}
use Rattle.lift_laws.proofs.PlaceRows.{chosen_in}
use Rattle.lift_laws.proofs.PlaceCase.{PlaceIn, place_in, kept_items, place_tests, place_fault, place_marked, has_place, has_place_is, place_there, by_place_stand, few_by_place, not_less}

-- what stands before a place, and from it on
abbrev before : ℤ → ℕ → Items → Items
before z n us = at_places (λ p. int_lt (pos p) z) n us

abbrev pub behind : ℤ → ℕ → Items → Items
behind z n us = at_places (λ p. not (int_lt (pos p) z)) n us

-- from a place on nothing stands before it
pub less_above : (z : ℤ) (n m : ℕ) → n ≤ m → int_lt (pos n) z ≡ false → int_lt (pos m) z ≡ false
less_above (negsuc k) n m l e = refl
less_above (pos k) n m l e = let q = ltb-false n k e in le-ltb m k (omega arith)

all_behind : (z : ℤ) (n : ℕ) (us : Items) → int_lt (pos n) z ≡ false → (before z n us ≡ []) × (behind z n us ≡ us)
all_behind z n [] e = (refl, refl)
all_behind z n (u ∷ us) e =
    let r = all_behind z (n + 1) us (less_above z n (n + 1) (omega arith) e) in (
      ap (λ b. cond b (u ∷ before z (n + 1) us) (before z (n + 1) us)) e ∙ r.0,
      ap (λ b. cond (not b) (u ∷ behind z (n + 1) us) (behind z (n + 1) us)) e ∙ ap (λ l. u ∷ l) r.1,
    )

inserted_parts : (z : ℤ) (ds : Items) (n : ℕ) (us : Items) → (before z n us ++ ds) ++ behind z n us ≡ insert_at z ds n us
inserted_parts z ds n [] = append_none ds
inserted_parts z ds n (u ∷ us) = go (int_lt (pos n) z) refl (inserted_parts z ds (n + 1) us)
  where
    go : (b : Bool) → int_lt (pos n) z ≡ b → (before z (n + 1) us ++ ds) ++ behind z (n + 1) us ≡ insert_at z ds (n + 1) us → (before z n (u ∷ us) ++ ds) ++ behind z n (u ∷ us) ≡ insert_at z ds n (u ∷ us)
    go true e rest =
        ap (λ b. (cond b (u ∷ before z (n + 1) us) (before z (n + 1) us) ++ ds) ++ cond (not b) (u ∷ behind z (n + 1) us) (behind z (n + 1) us)) e
        ∙ ap (λ l. u ∷ l) rest
        ∙ ap (λ b. cond b (ds ++ u ∷ us) (u ∷ insert_at z ds (n + 1) us)) (sym (ap not e) ∙ not_less z n)
    go false e rest =
        let r = all_behind z n (u ∷ us) e in
        ap (λ l. (l ++ ds) ++ behind z n (u ∷ us)) r.0 ∙ ap (λ l. ds ++ l) r.1
        ∙ ap (λ b. cond b (ds ++ u ∷ us) (u ∷ insert_at z ds (n + 1) us)) (sym (ap not e) ∙ not_less z n)

parts_length : (test : ℕ → Bool) (n : ℕ) (us : Items) → length (at_places test n us) + length (at_places (λ p. not (test p)) n us) ≡ length us
parts_length test n [] = refl
parts_length test n (u ∷ us) =
    let r = parts_length test (n + 1) us in
    let x = at_places test (n + 1) us in
    let y = at_places (λ p. not (test p)) (n + 1) us in
    elim (test n) as (λ b. length (cond b (u ∷ x) x) + length (cond (not b) (u ∷ y) y) ≡ length (u ∷ us)) [ true ↦ omega arith | false ↦ omega arith ]

abbrev inserted_answer : Items → Items → Items → Answer Items
inserted_answer us vs ds = with_value (λ z. insert_at z ds 1 us) (one_number (data_of vs))

-- the items before and behind, where there is a place
abbrev kept_before : Items → Items → Items
kept_before vs us = items_in (chosen_in OfPlaces f.GeneralLt vs us)

abbrev pub kept_behind : Items → Items → Items
kept_behind vs us = items_in (chosen_in OfPlaces f.GeneralGe vs us)

before_is : (us vs : Items) (p : PlaceIn vs) → kept_before vs us ≡ before p.number 1 us
before_is us vs p = kept_items o.Lt f.GeneralLt (λ w n v. refl) us vs p

pub behind_is : (us vs : Items) (p : PlaceIn vs) → kept_behind vs us ≡ behind p.number 1 us
behind_is us vs p = kept_items o.Ge f.GeneralGe (λ w n v. refl) us vs p

kept_few : (b : Bool) (us vs : Items) → (b ≡ true → PlaceIn vs) → length (items_in (cond b (chosen_in OfPlaces f.GeneralLt vs us) [])) + length (items_in (cond b (chosen_in OfPlaces f.GeneralGe vs us) [])) ≤ length us
kept_few true us vs there =
    let p = there refl in
    let x = ap length (before_is us vs p) in
    let y = ap length (behind_is us vs p) in
    let z = parts_length (λ n. int_lt (pos n) p.number) 1 us in
    omega arith
kept_few false us vs there = omega arith

module _ (its : List Iter) (h k j : Iter → List Cell) (l a b d : List Row) (asc : Ascends (λ i. i.number) 0 its) (sl : Same l (loop_rows its)) (sa : Same a (value_rows h its)) (sb : Same b (value_rows k its)) (sd : Same d (value_rows j its)) where
  abbrev there : Iter → Bool
  there i = has_place its k l b asc sl sb i

  abbrev before_at : Iter → List Cell
  before_at i = items_in (cond (there i) (chosen_in OfPlaces f.GeneralLt (k i) (h i)) [])

  abbrev behind_at : Iter → List Cell
  behind_at i = items_in (cond (there i) (chosen_in OfPlaces f.GeneralGe (k i) (h i)) [])

  abbrev all_at : Iter → List Cell
  all_at i = (before_at i ++ j i) ++ behind_at i

  inserted_stand : Same (inserted_rows l a b d) (value_rows all_at its)
  inserted_stand =
      seq_stands (λ i. before_at i ++ j i) behind_at its _ _ asc (seq_stands before_at j its _ d asc (by_place_stand its k l b asc sl sb h a sa f.GeneralLt) sd) (by_place_stand its k l b asc sl sb h a sa f.GeneralGe)

  value_there : (i : Iter) → fault_in (inserted_answer (h i) (k i) (j i)) ≡ None → all_at i ≡ list_of (value_in (inserted_answer (h i) (k i) (j i)))
  value_there i e =
      let G = λ (z : ℤ). insert_at z (j i) 1 (h i) in
      let t : there i ≡ true = has_place_is its k l b asc sl sb G i ∙ ap calm e in
      let p = place_in (k i) (sym (with_fault G (one_number (data_of (k i)))) ∙ e) in
      ap (λ b'. (items_in (cond b' (chosen_in OfPlaces f.GeneralLt (k i) (h i)) []) ++ j i) ++ items_in (cond b' (chosen_in OfPlaces f.GeneralGe (k i) (h i)) [])) t
      ∙ ap (λ x. (x ++ j i) ++ kept_behind (k i) (h i)) (before_is (h i) (k i) p) ∙ ap (λ x. (before p.number 1 (h i) ++ j i) ++ x) (behind_is (h i) (k i) p)
      ∙ inserted_parts p.number (j i) 1 (h i) ∙ ap (λ x. list_of (value_in (with_value G x))) (sym p.asked_is)

  inserted_few : length (inserted_rows l a b d) ≤ length a + length d
  inserted_few =
      let x = same-length inserted_stand ∙ size_cells all_at its in
      let y = total_most (λ i. length (all_at i)) (λ i. length (h i) + length (j i)) its
      (λ i. let p = length-append (before_at i ++ j i) (behind_at i) in let q = length-append (before_at i) (j i) in let r = kept_few (there i) (h i) (k i) (λ e. place_there its k l b asc sl sb i e) in omega arith) in
      let z = total-sum (λ i. length (h i)) (λ i. length (j i)) its in
      let u = same-length sa ∙ size_cells h its in
      let v = same-length sd ∙ size_cells j its in
      omega arith

module _ (docs : Docs) (s s1 s2 : State) (site : Site) (looped a b d t : OpId) (cs : List Check) where
  abbrev L : List Row
  L = (at s looped).rows

  abbrev A : List Row
  A = (at s a).rows

  abbrev B : List Row
  B = (at s b).rows

  abbrev D : List Row
  D = (at s d).rows

  abbrev mids : List (List Row)
  mids = restrict_rows (place_loop L B) A ∷ beside_place L A B ∷ inserted_rows L A B D ∷ []

  abbrev tests : List (Iter → List Cell) → List (Iter → Bool)
  tests (h ∷ k ∷ hs) = place_tests B k
  tests _ = []

  within : (N : ℕ) → length L + op_sizes s (a ∷ b ∷ d ∷ []) ≤ N → AllOf (λ (j : List Row). length j ≤ N) mids → (inserted_most L A B D ≤ N) × (inserted_most L A B D ≤ N)
  within N q w =
      let x : length L + length A + length D ≤ N = omega arith in
      let y : length L ≤ N = omega arith in
      let z : length A ≤ N = omega arith in
      let u : length B ≤ N = omega arith in
      let p : inserted_most L A B D ≤ N = max-le x (max-le (max-le (max-le y z) (max-le u (max-le w.0 w.1.0))) w.1.1.0) in
      (p, p)

  pub insert_call : Makes s s1 t three (inserted_rows (at s looped).rows (at s a).rows (at s b).rows (at s d).rows) (inserted_most (at s looped).rows (at s a).rows (at s b).rows (at s d).rows)
      → Stages site (inserted_most (at s looped).rows (at s a).rows (at s b).rows (at s d).rows) s1 s2 (at s looped).rows (place_marks (at s looped).rows (at s b).rows) cs
      → CallLifts docs s s2 site (Apply f.InsertBefore) looped (a ∷ b ∷ d ∷ []) t
  insert_call m st =
      stages_call docs s s1 s2 site (Apply f.InsertBefore) looped (a ∷ b ∷ d ∷ []) t cs (place_marks L B) mids tests refl (operands_ranked L ((OneNumber, B) ∷ [])) (operands_dynamic L ((OneNumber, B) ∷ [])) _ _ _ m st within
      (λ its gs tree asc hl hp rooted.
      of_three s its (λ gs. AllMark (marked_rows (place_marks L B)) (tests gs) its × AllOf (λ i. fault_in (call_answer docs site (Apply f.InsertBefore) gs i) ≡ first_coded (map first_mark (place_marks L B)) (tests gs) i) its) a b d
      (λ h k j ha hb hd. (place_marked its k L B asc hl.rows_are hb.rows_are, all_each _ (λ i. place_fault L B k i (λ z. insert_at z (j i) 1 (h i))) its)) gs hp)
      (λ its gs asc hl hp.
      of_three s its (λ gs. AllOf (λ (j : List Row). length j ≤ length L + op_sizes s (a ∷ b ∷ d ∷ [])) mids) a b d
      (λ h k j ha hb hd.
      let w = few_by_place its k L B asc hl.rows_are hb.rows_are h A ha.rows_are in
      let x = w.0 in
      let y = w.1.0 in
      let z = inserted_few its h k j L A B D asc hl.rows_are ha.rows_are hb.rows_are hd.rows_are in
      (omega arith, (omega arith, (omega arith, tt)))) gs hp)
      (λ its gs tree asc hl hp rooted none.
      of_three s its (λ gs. call_faults docs site (Apply f.InsertBefore) gs its ≡ [] → Same (inserted_rows L A B D) (value_rows (λ i. list_of (value_in (call_answer docs site (Apply f.InsertBefore) gs i))) its)) a b d
      (λ h k j ha hb hd z.
      same-trans (inserted_stand its h k j L A B D asc hl.rows_are ha.rows_are hb.rows_are hd.rows_are)
      (same-of (flat-all _ _ its (all_mono _ _ (λ i (e : fault_in (call_answer docs site (Apply f.InsertBefore) (h ∷ k ∷ j ∷ []) i) ≡ None).
      ap (item_rows i.number 1) (value_there its h k j L A B D asc hl.rows_are ha.rows_are hb.rows_are hd.rows_are i e)) its (calm_calls docs site (Apply f.InsertBefore) (h ∷ k ∷ j ∷ []) its z))))) gs hp none)
