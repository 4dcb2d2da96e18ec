-- Lists in order, and the first of equal elements (own rule).
pub use Rattle.doc_table.specs.Orders.{has, in_order, once}
use Rattle.std.specs.Prelude.{Bool, cond, List, [], ◌∷◌}

-- the first of equal elements, but for those that equal one of the seen
abbrev pub firsts : {A : Type 0} → (A → A → Bool) → List A → List A → List A
firsts eq seen [] = []
firsts eq seen (x ∷ xs) = cond (has eq x seen) (firsts eq seen xs) (x ∷ firsts eq (x ∷ seen) xs)
