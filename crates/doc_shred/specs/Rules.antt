-- What a rule of a grammar over bytes is, and how rules are put together (XML 1.0, section 6, as relations).
use Rattle.std.specs.Prelude.{◌≡◌, ℕ, Bool, true, false, ◌||◌, ◌==◌, if◌then◌else◌, List, [], ◌∷◌, ◌++◌, ◌⊎◌}

-- A rule relates what is left to be read, what is left after a part of it, and the value of this part.
abbrev pub Rule : Type 0 → Type 1
Rule A = List ℕ → List ℕ → A → Type 0

-- a part, and then one that may depend on it
pub record IsThen {A B : Type 0} (R : Rule A) (S : A → Rule B) (from rest : List ℕ) (b : B) : Type 0 where
  pub part : A
  pub mid : List ℕ
  pub first : R from mid part
  pub second : S part mid rest b

infixl 10 ◌▷=◌
abbrev pub ◌▷=◌ : {A B : Type 0} → Rule A → (A → Rule B) → Rule B
R ▷= S = IsThen R S

infixl 10 ◌▷◌
abbrev pub ◌▷◌ : {A B : Type 0} → Rule A → Rule B → Rule B
R ▷ S = IsThen R (λ _. S)

-- nothing, with this value
abbrev pub gives : {A : Type 0} → A → Rule A
gives a from rest b = (from ≡ rest) × (a ≡ b)

-- nothing, where this holds
abbrev pub where_ : Bool → Rule (Unit {0})
where_ holds from rest _ = (from ≡ rest) × (holds ≡ true)

-- one of two
infixr 8 ◌or◌
abbrev pub ◌or◌ : {A : Type 0} → Rule A → Rule A → Rule A
(R or S) from rest a = R from rest a ⊎ S from rest a

-- these bytes
abbrev pub word : List ℕ → Rule (Unit {0})
word w from rest _ = from ≡ w ++ rest

-- any number of parts
pub data IsMany {A : Type 0} (R : Rule A) : List ℕ → List ℕ → List A → Type 0 where
  none : {at : List ℕ} → IsMany R at at []
  more : {from mid rest : List ℕ} {a : A} {others : List A} → R from mid a → IsMany R mid rest others → IsMany R from rest (a ∷ others)

abbrev pub many : {A : Type 0} → Rule A → Rule (List A)
many R = IsMany R

-- each byte is of the class
abbrev pub Each : (ℕ → Bool) → List ℕ → Type 0
Each p [] = Unit {0}
Each p (c ∷ cs) = (p c ≡ true) × Each p cs

-- a byte of the class comes next
abbrev pub starts : (ℕ → Bool) → List ℕ → Bool
starts p [] = false
starts p (c ∷ cs) = p c

-- bytes of the class, as many as there are
pub record IsRunOf (p : ℕ → Bool) (from rest front : List ℕ) : Type 0 where
  pub each : Each p front
  pub whole : from ≡ front ++ rest
  pub ends : starts p rest ≡ false

abbrev pub any_of : (ℕ → Bool) → Rule (List ℕ)
any_of p = IsRunOf p

-- one of them or more
abbrev pub some_of : (ℕ → Bool) → Rule (List ℕ)
some_of p from rest front = (starts p from ≡ true) × IsRunOf p from rest front

-- these bytes come next
abbrev pub begins : List ℕ → List ℕ → Bool
begins [] from = true
begins (c ∷ cs) [] = false
begins (c ∷ cs) (d ∷ ds) = if d == c then begins cs ds else false

-- the bytes before the first place where these stand, which follow them
abbrev pub before : List ℕ → Rule (List ℕ)
before w from rest [] = from ≡ w ++ rest
before w from rest (c ∷ cs) = (begins w from ≡ false) × (tail : List ℕ) × (from ≡ c ∷ tail) × before w tail rest cs

-- these bytes stand somewhere in the list
abbrev pub holds : List ℕ → List ℕ → Bool
holds w [] = begins w []
holds w (c ∷ cs) = begins w (c ∷ cs) || holds w cs
