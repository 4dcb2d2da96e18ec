-- Iterations with an item that passes a test, which operators make of each row by itself.
use Rattle.std.proofs.Common.{◌≡◌, ℕ, ◌+◌, Bool, ◌||◌, List, [], ◌∷◌, ◌++◌, refl, sym, ap, ◌∙◌, arith}
use Rattle.std.specs.List.{filter, flat_map, list_any}
use Rattle.std.proofs.lemmas.Bool.{lt-ltb}
use Rattle.plan_dag.specs.declared.cols.Col.{Col}
use Rattle.plan_dag.specs.ItemRules.{Cell}
use Rattle.plan_dag.specs.Meaning.{cell}
use Rattle.lift_laws.specs.Sums.{total, AllOf, Ascends, Same}
use Rattle.lift_laws.specs.Iterations.{Row, Iter, num, item_rows, value_rows}
use Rattle.lift_laws.specs.States.{column}
use Rattle.lift_laws.specs.Shapes.{bare, pair, project}
use Rattle.lift_laws.proofs.Multi.{same-of, same-trans, same-flat}
use Rattle.lift_laws.proofs.Picks.{all_each, all-append, flat-flat}
use Rattle.lift_laws.proofs.Keeping.{filter_append}
use Rattle.lift_laws.proofs.Marks.{Marks, marks_is, some}
use Rattle.lift_laws.proofs.Operands.{marks_kept}

some_append : (xs ys : List Row) → some (xs ++ ys) ≡ (some xs || some ys)
some_append [] ys = refl
some_append (x ∷ xs) ys =
    lt-ltb 0 (1 + total (λ (r : Row). 1) (xs ++ ys)) (omega arith) ∙ sym (ap (λ b. b || some ys) (lt-ltb 0 (1 + total (λ (r : Row). 1) xs) (omega arith)))

module _ (cs : List Col) (F : Row → List Row) (test : Row → Bool) (t : Cell → Bool) (shape : (n k : ℕ) (v : Cell) → some (filter test (F (num n ∷ num k ∷ v ∷ []))) ≡ t v)
    (keyed : (n k : ℕ) (v : Cell) → AllOf (λ r. cell bare cs (column 0) r ≡ num n) (F (num n ∷ num k ∷ v ∷ []))) where
  passes : (n k : ℕ) (vs : List Cell) → some (filter test (flat_map F (item_rows n k vs))) ≡ list_any t vs
  passes n k [] = refl
  passes n k (v ∷ vs) =
      let one = F (num n ∷ num k ∷ v ∷ []) in
      let rest = flat_map F (item_rows n (k + 1) vs) in
      ap some (filter_append test one rest) ∙ some_append (filter test one) (filter test rest) ∙ ap (λ b. b || some (filter test rest)) (shape n k v) ∙ ap (λ b. t v || b) (passes n (k + 1) vs)

  keys : (n k : ℕ) (vs : List Cell) → AllOf (λ r. cell bare cs (column 0) r ≡ num n) (flat_map F (item_rows n k vs))
  keys n k [] = tt
  keys n k (v ∷ vs) = all-append _ (F (num n ∷ num k ∷ v ∷ [])) (flat_map F (item_rows n (k + 1) vs)) (keyed n k v) (keys n (k + 1) vs)

  pub marks_tested : (h : Iter → List Cell) (its : List Iter) (a : List Row) → Ascends (λ i. i.number) 0 its → Same a (value_rows h its) → Marks (project cs (pair 0 0 ∷ []) (filter test (flat_map F a))) (λ i. list_any t (h i)) its
  marks_tested h its a asc sa =
      marks_is (all_each _ (λ i. passes i.number 1 (h i)) its)
      (marks_kept cs test (λ i. flat_map F (item_rows i.number 1 (h i))) its (flat_map F a) asc (λ i. keys i.number 1 (h i))
      (same-trans (same-flat F sa) (same-of (flat-flat F (λ i. item_rows i.number 1 (h i)) its))))
