-- Sums over lists, lists with the same elements, and what holds of all elements (own rule).
use Rattle.std.specs.Prelude.{◌≡◌, ℕ, ◌+◌, ◌<◌, Bool, cond, List, [], ◌∷◌}

-- the sum of a weight over a list, and how many elements pass a test
abbrev pub total : {A : Type 0} → (A → ℕ) → List A → ℕ
total w [] = 0
total w (x ∷ xs) = w x + total w xs

abbrev pub bit : Bool → ℕ
bit b = cond b 1 0

abbrev pub count : {A : Type 0} → (A → Bool) → List A → ℕ
count p xs = total (λ x. bit (p x)) xs

-- the same elements, in any order: every weight has the same sum over both
pub record Same {A : Type 0} (xs ys : List A) : Type 0 where
  pub at : (w : A → ℕ) → total w xs ≡ total w ys

abbrev pub AllOf : {A : Type 0} → (A → Type 0) → List A → Type 0
AllOf P [] = Unit {0}
AllOf P (x ∷ xs) = P x × AllOf P xs

-- the keys ascend, from above n
abbrev pub Ascends : {X : Type 0} → (X → ℕ) → ℕ → List X → Type 0
Ascends key n [] = Unit {0}
Ascends key n (x ∷ xs) = (n < key x) × Ascends key (key x) xs
