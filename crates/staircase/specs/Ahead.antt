-- The rows of a context, and those of them that are still to come (own rule).
use Rattle.std.specs.Prelude.{ℕ, suc, ◌≡◌, ◌<◌, ◌≤◌, Bool, false, ◌||◌, if◌then◌else◌, List, [], ◌∷◌, drop, Option, Some, None, nat_eq}
use Rattle.staircase.specs.declared.ahead.Ahead.{Ahead}

-- whether a number stands in a list
abbrev pub has : ℕ → List ℕ → Bool
has v [] = false
has v (x ∷ xs) = nat_eq x v || has v xs

-- whether some number of a list passes
abbrev pub any : (ℕ → Bool) → List ℕ → Bool
any p [] = false
any p (x ∷ xs) = p x || any p xs

-- ascending, each once, from the first number on and below the second
abbrev pub UpFrom : ℕ → ℕ → List ℕ → Type 0
UpFrom a n [] = Unit {0}
UpFrom a n (x ∷ xs) = (a ≤ x) × (x < n) × UpFrom (suc x) n xs

abbrev pub first_of : List ℕ → Option ℕ
first_of [] = None
first_of (x ∷ xs) = Some x

abbrev pub is_first : ℕ → List ℕ → Bool
is_first at [] = false
is_first at (x ∷ xs) = nat_eq x at

-- without this number, where it is the first one
abbrev pub without : ℕ → List ℕ → List ℕ
without at [] = []
without at (x ∷ xs) = if nat_eq x at then xs else x ∷ xs

-- the rows that are still to come
abbrev pub rest_of : Ahead → List ℕ
rest_of a = drop a.next a.rows.now

-- the rows from `from` on that are in the list are those still to come
pub record Comes (rows rest : List ℕ) (from n : ℕ) : Type 0 where
  pub up : UpFrom from n rest
  pub same : (w : ℕ) → from ≤ w → has w rows ≡ has w rest
