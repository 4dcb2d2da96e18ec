-- Orders, and lists that ascend in them (own rule).
use Rattle.std.specs.Prelude.{◌≡◌, ◌⊎◌, Bool, true, false, List, [], ◌∷◌}
use Rattle.doc_table.specs.Orders.{has, once}

-- an element of a list
abbrev pub In : {A : Type 0} → A → List A → Type 0
In x [] = ⊥
In x (y ∷ ys) = (x ≡ y) ⊎ In x ys

abbrev pub AllAfter : {A : Type 0} → (A → A → Bool) → A → List A → Type 0
AllAfter less x [] = Unit {0}
AllAfter less x (y ∷ ys) = (less x y ≡ true) × AllAfter less x ys

-- each comes before all that follow it; so none stands twice
abbrev pub Ascends : {A : Type 0} → (A → A → Bool) → List A → Type 0
Ascends less [] = Unit {0}
Ascends less (x ∷ xs) = AllAfter less x xs × Ascends less xs

-- a strict order, in which two that are not equal come one before the other
pub record IsOrder {A : Type 0} (less eq : A → A → Bool) : Type 0 where
  pub eq_self : (x : A) → eq x x ≡ true
  pub eq_turn : (x y : A) → eq x y ≡ eq y x
  pub eq_same : (x y z : A) → eq x y ≡ true → eq x z ≡ eq y z
  pub less_same : (x y z : A) → eq x y ≡ true → less x z ≡ less y z
  pub less_turn : (x y : A) → less x y ≡ true → less y x ≡ false
  pub less_apart : (x y : A) → less x y ≡ true → eq x y ≡ false
  pub third : (x y : A) → less x y ≡ false → eq x y ≡ false → less y x ≡ true
  pub chain : (x y z : A) → less x y ≡ true → less y z ≡ true → less x z ≡ true

-- an ascending list is determined by its elements
abbrev pub OneAscending : Type 0 → Type 0
OneAscending A = (less : A → A → Bool) → ((x y : A) → less x y ≡ true → less y x ≡ false) → (xs ys : List A) → Ascends less xs → Ascends less ys
    → ((x : A) → In x xs → In x ys) → ((x : A) → In x ys → In x xs) → xs ≡ ys

-- what stands in order, each once
pub record StandsOnce {A : Type 0} (less eq : A → A → Bool) (xs : List A) : Type 0 where
  pub ascends : Ascends less (once less eq xs)
  pub from : (x : A) → In x (once less eq xs) → In x xs
  pub all : (x : A) → In x xs → has eq x (once less eq xs) ≡ true
