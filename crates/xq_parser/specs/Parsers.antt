-- Reading from left to right.
use Rattle.std.specs.Prelude.{ℕ, zero, suc, Bool, List, [], ◌∷◌, ◌++◌, if◌then◌else◌, Option, Some, None, Result, Ok, Err}
use Rattle.xq_ast.specs.Phrases.{Why}

pub data Fault : Type 0 where
  syntax_fault : Fault
  cut : Why → ℕ → Fault

abbrev pub Outcome : Type 0 → Type 0
Outcome A = Result (A × ℕ) Fault

abbrev pub Parser : Type 0 → Type 0
Parser A = ℕ → Outcome A

abbrev pub and_then : {A B : Type 0} → (A × ℕ → Outcome B) → Outcome A → Outcome B
and_then f (Ok x) = f x
and_then f (Err e) = Err e

infixl 10 ◌>>=◌
abbrev pub ◌>>=◌ : {A B : Type 0} → Parser A → (A → Parser B) → Parser B
p >>= f = λ at. and_then (λ x. f x.0 x.1) (p at)

infixl 10 ◌>>◌
abbrev pub ◌>>◌ : {A B : Type 0} → Parser A → Parser B → Parser B
p >> q = p >>= λ _. q

abbrev pub give : {A : Type 0} → A → Parser A
give a = λ at. Ok (a, at)

-- the value that is there, if there is one
abbrev pub has : {A : Type 0} → Option A → Parser A
has None = λ at. Err syntax_fault
has (Some a) = λ at. Ok (a, at)

abbrev pub tell : {A : Type 0} → (ℕ → A) → Parser A
tell f = λ at. Ok (f at, at)

abbrev pub fault : {A : Type 0} → Parser A
fault = λ at. Err syntax_fault

abbrev pub choose : {A : Type 0} → (ℕ → Bool) → Parser A → Parser A → Parser A
choose test p q = λ at. if test at then p at else q at

abbrev pub needs : Bool → Parser (Unit {0})
needs b = λ at. if b then Ok (tt, at) else Err syntax_fault

abbrev pub take_ : {A : Type 0} → (ℕ → Bool) → (ℕ → A) → (ℕ → ℕ) → Parser A
take_ test value end = λ at. if test at then Ok (value at, end at) else Err syntax_fault

abbrev pub cuts : {A : Type 0} → Why → (ℕ → ℕ) → (ℕ → Bool) → Parser A
cuts w start test = λ at. if test at then Err (cut w (start at)) else Err syntax_fault

-- The number bounds the turns.
unfoldable pub many_from : {A : Type 0} → (ℕ → Bool) → Parser A → ℕ → List A → Parser (List A)
many_from test p zero found = λ at. Ok (found, at)
many_from test p (suc n) found = λ at. if test at then (p >>= λ a. many_from test p n (found ++ a ∷ [])) at else Ok (found, at)

abbrev pub some_of : {A : Type 0} → (ℕ → Bool) → Parser A → Parser (Option A)
some_of test p = λ at. if test at then (p >>= λ a. give (Some a)) at else Ok (None, at)
