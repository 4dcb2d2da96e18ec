-- Places of cells with equal ones in another list (own rule).
use Rattle.std.specs.Prelude.{ℕ, suc, Bool, not, List, [], ◌∷◌, ◌++◌, map}
use Rattle.std.specs.List.{list_any}
use Rattle.table_ops.specs.Chains.{places_of}

-- pairs of places of equal values, by the left place first
abbrev pub equal_pairs_from : {X : Type 0} → (X → X → Bool) → ℕ → List X → List X → List (ℕ × ℕ)
equal_pairs_from eq l [] rs = []
equal_pairs_from eq l (x ∷ xs) rs = map (λ r. (l, r)) (places_of (eq x) 0 rs) ++ equal_pairs_from eq (suc l) xs rs

-- the places of the left values that equal no right one
abbrev pub lone_places : {X : Type 0} → (X → X → Bool) → List X → List X → List ℕ
lone_places eq ls rs = places_of (λ x. not (list_any (eq x) rs)) 0 ls
