-- Reading from left to right: what stands at the front, and what is left after it.
use Rattle.std.specs.Prelude.{ℕ, zero, suc, Bool, ◌==◌, if◌then◌else◌, List, [], ◌∷◌, ◌++◌, Option, Some, None, option_map, option_and_then}
use Rattle.doc_shred.specs.Rules.{starts, begins}

abbrev pub Parser : Type 0 → Type 0
Parser A = List ℕ → Option (A × List ℕ)

infixl 10 ◌>>=◌
abbrev pub ◌>>=◌ : {A B : Type 0} → Parser A → (A → Parser B) → Parser B
(p >>= q) from = option_and_then (λ x. q x.0 x.1) (p from)

infixl 10 ◌>>◌
abbrev pub ◌>>◌ : {A B : Type 0} → Parser A → Parser B → Parser B
(p >> q) from = option_and_then (λ x. q x.1) (p from)

abbrev pub give : {A : Type 0} → A → Parser A
give a from = Some (a, from)

abbrev pub need : Bool → Parser (Unit {0})
need b from = if b then Some (tt, from) else None

abbrev pub choose : {A : Type 0} → (List ℕ → Bool) → Parser A → Parser A → Parser A
choose test p q from = if test from then p from else q from

-- what follows these bytes
abbrev pub strip : List ℕ → Parser (Unit {0})
strip [] from = Some (tt, from)
strip (c ∷ cs) [] = None
strip (c ∷ cs) (d ∷ ds) = if d == c then strip cs ds else None

-- the bytes of a class at the front, and what follows them
abbrev pub run : (ℕ → Bool) → List ℕ → List ℕ
run p [] = []
run p (c ∷ cs) = if p c then c ∷ run p cs else []

abbrev pub after_run : (ℕ → Bool) → List ℕ → List ℕ
after_run p [] = []
after_run p (c ∷ cs) = if p c then after_run p cs else c ∷ cs

abbrev pub run_of : (ℕ → Bool) → Parser (List ℕ)
run_of p from = Some (run p from, after_run p from)

abbrev pub some_run_of : (ℕ → Bool) → Parser (List ℕ)
some_run_of p from = if starts p from then Some (run p from, after_run p from) else None

-- the bytes before the first place where a word stands, and what follows the word
abbrev pub before_first : List ℕ → Parser (List ℕ)
before_first w [] = option_map (λ x. ([], x.1)) (strip w [])
before_first w (c ∷ cs) =
    if begins w (c ∷ cs) then option_map (λ x. ([], x.1)) (strip w (c ∷ cs))
    else option_map (λ x. (c ∷ x.0, x.1)) (before_first w cs)

-- parts while the test holds, in at most so many turns, and then what follows them
abbrev pub repeat : {A B : Type 0} → (List ℕ → Bool) → Parser A → (List A → Parser B) → List A → ℕ → Parser B
repeat test p q before zero from = None
repeat test p q before (suc n) from =
    if test from then option_and_then (λ x. repeat test p q (before ++ x.0 ∷ []) n x.1) (p from) else q before from

-- with these bytes in front of what was read
abbrev pub fronted : List ℕ → Option (List ℕ × List ℕ) → Option (List ℕ × List ℕ)
fronted front = option_map (λ (x : List ℕ × List ℕ). (front ++ x.0, x.1))
