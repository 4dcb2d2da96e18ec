-- Rows of two columns read the same under other names.
use Rattle.std.proofs.Common.{◌≡◌, ℕ, Bool, true, false, cond, List, [], ◌∷◌, map, refl, ap, ◌∙◌}
use Rattle.std.specs.List.{filter}
use Rattle.plan_dag.specs.ItemRules.{is_true}
use Rattle.plan_dag.specs.Meaning.{cell}
use Rattle.lift_laws.specs.Iterations.{Row}
use Rattle.lift_laws.specs.States.{column}
use Rattle.lift_laws.specs.Shapes.{bare, pair, columns, pick, project}

map_same : {A B : Type 0} (f g : A → B) (xs : List A) → ((x : A) → f x ≡ g x) → map f xs ≡ map g xs
map_same f g [] h = refl
map_same f g (x ∷ xs) h = ap (λ y. y ∷ map f xs) (h x) ∙ ap (λ l. g x ∷ l) (map_same f g xs h)

filter_same : {A : Type 0} (p q : A → Bool) (xs : List A) → ((x : A) → p x ≡ q x) → filter p xs ≡ filter q xs
filter_same p q [] h = refl
filter_same p q (x ∷ xs) h = ap (λ b. cond b (x ∷ filter p xs) (filter p xs)) (h x) ∙ ap (λ l. cond (q x) (x ∷ l) l) (filter_same p q xs h)

counted_cells : (r : Row) → pick (columns (0 ∷ 3 ∷ [])) (pair 4 0 ∷ pair 5 3 ∷ []) r ≡ pick (columns (0 ∷ 1 ∷ [])) (pair 4 0 ∷ pair 5 1 ∷ []) r
counted_cells [] = refl
counted_cells (v ∷ []) = refl
counted_cells (v ∷ w ∷ r) = refl

pub counted_same : (rs : List Row) → project (columns (0 ∷ 3 ∷ [])) (pair 4 0 ∷ pair 5 3 ∷ []) rs ≡ project (columns (0 ∷ 1 ∷ [])) (pair 4 0 ∷ pair 5 1 ∷ []) rs
counted_same rs = map_same (pick (columns (0 ∷ 3 ∷ [])) (pair 4 0 ∷ pair 5 3 ∷ [])) (pick (columns (0 ∷ 1 ∷ [])) (pair 4 0 ∷ pair 5 1 ∷ [])) rs counted_cells

abbrev true_in : ℕ → Row → Bool
true_in n r = is_true (cell bare (columns (0 ∷ n ∷ [])) (column n) r)

true_cells : (r : Row) → true_in 3 r ≡ true_in 1 r
true_cells [] = refl
true_cells (v ∷ []) = refl
true_cells (v ∷ w ∷ r) = refl

first_cells : (r : Row) → pick (columns (0 ∷ 3 ∷ [])) (pair 0 0 ∷ []) r ≡ pick (columns (0 ∷ 1 ∷ [])) (pair 0 0 ∷ []) r
first_cells [] = refl
first_cells (v ∷ r) = refl

pub true_same : (rs : List Row) → project (columns (0 ∷ 3 ∷ [])) (pair 0 0 ∷ []) (filter (λ r. is_true (cell bare (columns (0 ∷ 3 ∷ [])) (column 3) r)) rs) ≡ project (columns (0 ∷ 1 ∷ [])) (pair 0 0 ∷ []) (filter (λ r. is_true (cell bare (columns (0 ∷ 1 ∷ [])) (column 1) r)) rs)
true_same rs =
    map_same (pick (columns (0 ∷ 3 ∷ [])) (pair 0 0 ∷ [])) (pick (columns (0 ∷ 1 ∷ [])) (pair 0 0 ∷ [])) (filter (true_in 3) rs) first_cells
    ∙ ap (project (columns (0 ∷ 1 ∷ [])) (pair 0 0 ∷ [])) (filter_same (true_in 3) (true_in 1) rs true_cells)
