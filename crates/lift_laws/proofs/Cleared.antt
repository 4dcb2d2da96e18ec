-- Iterations cleared of marks, one table of marks after the other: no union, so no table has more rows than an argument.
use Rattle.std.proofs.Common.{◌≡◌, Bool, true, false, cond, not, ◌&&◌, List, [], ◌∷◌, refl, sym, ap}
use Rattle.std.specs.List.{filter}
use Rattle.lift_laws.specs.Sums.{Same}
use Rattle.lift_laws.specs.Iterations.{Row, Iter, num, loop_rows}
use Rattle.lift_laws.specs.Shapes.{cleared}
use Rattle.lift_laws.proofs.Multi.{same-of, same-trans}
use Rattle.lift_laws.proofs.Simple.{is_there}
use Rattle.lift_laws.proofs.ChoiceCase.{keep_hold}
use Rattle.lift_laws.proofs.Marks.{Marks, unmarked_stands}

abbrev pub none_of : List (Iter → Bool) → Iter → Bool
none_of [] i = true
none_of (p ∷ ps) i = not (p i) && none_of ps i

abbrev pub AllMark : List (List Row) → List (Iter → Bool) → List Iter → Type 0
AllMark [] [] its = Unit {0}
AllMark [] (p ∷ ps) its = ⊥
AllMark (b ∷ bs) [] its = ⊥
AllMark (b ∷ bs) (p ∷ ps) its = Marks b p its × AllMark bs ps its

pub keep_twice : (p q : Iter → Bool) (its : List Iter) → filter q (filter p its) ≡ filter (λ i. p i && q i) its
keep_twice p q [] = refl
keep_twice p q (i ∷ its) =
    let r = keep_twice p q its in
    elim (p i) as (λ b. filter q (cond b (i ∷ filter p its) (filter p its)) ≡ cond (b && q i) (i ∷ filter (λ j. p j && q j) its) (filter (λ j. p j && q j) its)) [
      | true ↦ ap (λ l. cond (q i) (i ∷ l) l) r
      | false ↦ r
    ]

pub marks_keep : (q : Iter → Bool) (bs : List (List Row)) (ps : List (Iter → Bool)) (its : List Iter) → AllMark bs ps its → AllMark bs ps (filter q its)
marks_keep q [] [] its h = tt
marks_keep q [] (p ∷ ps) its h = h
marks_keep q (b ∷ bs) [] its h = h
marks_keep q (b ∷ bs) (p ∷ ps) its h = (record { each = keep_hold (λ i. is_there (num i.number) b ≡ p i) q its h.0.each }, marks_keep q bs ps its h.1)

pub keep_all_true : (its : List Iter) → filter (λ (i : Iter). true) its ≡ its
keep_all_true [] = refl
keep_all_true (i ∷ its) = ap (λ l. i ∷ l) (keep_all_true its)

pub cleared_stands : (bs : List (List Row)) (ps : List (Iter → Bool)) (its : List Iter) (l : List Row) → Same l (loop_rows its) → AllMark bs ps its → Same (cleared l bs) (loop_rows (filter (none_of ps) its))
cleared_stands [] [] its l s m = same-trans s (same-of (ap loop_rows (sym (keep_all_true its))))
cleared_stands [] (p ∷ ps) its l s m = absurd m
cleared_stands (b ∷ bs) [] its l s m = absurd m
cleared_stands (b ∷ bs) (p ∷ ps) its l s m =
    same-trans (cleared_stands bs ps (filter (λ i. not (p i)) its) _ (unmarked_stands p its l b s m.0) (marks_keep (λ i. not (p i)) bs ps its m.1))
    (same-of (ap loop_rows (keep_twice (λ i. not (p i)) (none_of ps) its)))
