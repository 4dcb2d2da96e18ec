-- Making with new variables (own rule): a number counts those that were made.
use Rattle.std.specs.Prelude.{ℕ, ◌+◌}

pub record Made (A : Type 0) : Type 0 where
  pub made : A
  pub next : ℕ

abbrev pub Makes : Type 0 → Type 0
Makes A = ℕ → Made A

abbrev pub give : {A : Type 0} → A → Makes A
give a n = record { made = a; next = n }

infixl 10 ◌▷=◌
abbrev pub ◌▷=◌ : {A B : Type 0} → Makes A → (A → Makes B) → Makes B
(f ▷= g) n = g ((f n).made) ((f n).next)

-- new variables stand from `base` on
abbrev pub fresh : ℕ → Makes ℕ
fresh base n = record { made = base + n; next = n + 1 }
