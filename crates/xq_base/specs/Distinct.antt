-- Lists in which nothing comes twice (own rule).
use Rattle.std.specs.Prelude.{◌≡◌, ◌⊎◌, List, [], ◌∷◌}

module _ {A : Type 0} where
  -- the value is one of the list
  abbrev pub Holds : List A → A → Type 0
  Holds [] x = ⊥
  Holds (y ∷ ys) x = (y ≡ x) ⊎ Holds ys x

  -- no value of the list comes twice
  abbrev pub AllDiffer : List A → Type 0
  AllDiffer [] = Unit {0}
  AllDiffer (y ∷ ys) = (Holds ys y → ⊥) × AllDiffer ys
