-- The rows that are still to come.
use Rattle.std.proofs.Common.{inl, inr, ◌≡◌, ℕ, suc, ◌+◌, ◌<◌, ◌≤◌, Bool, true, false, ◌||◌, cond, List, [], ◌∷◌, refl, sym, ◌∙◌, subst, arith, Option, Some, None}
use Rattle.std.specs.Prelude.{nat_eq}
use Rattle.std.proofs.lemmas.Bool.{eq-eqb, ne_eqb, eqb-true, eqb-false, or_cases, false≢true, true≢false}
use Rattle.staircase.specs.Passes.{NextIs}
use Rattle.staircase.specs.Ahead.{has, any, UpFrom, first_of, is_first, without, Comes}

-- a number before all of them isn't among them
pub has-none : (a n w : ℕ) (xs : List ℕ) → UpFrom a n xs → w < a → has w xs ≡ false
has-none a n w [] u l = refl
has-none a n w (x ∷ xs) u l = rw (ne_eqb x w (λ e. omega (arith, u.0)), has-none (suc x) n w xs u.2 (omega (arith, u.0))) refl

pub has-below : (a n w : ℕ) (xs : List ℕ) → UpFrom a n xs → has w xs ≡ true → (a ≤ w) × (w < n)
has-below a n w [] u h = absurd (false≢true h)
has-below a n w (x ∷ xs) u h = elim (or_cases (nat_eq x w) (has w xs) h) [
  | inl e ↦ (let q : x ≡ w = eqb-true x w e in (omega (arith, u.0), omega (arith, u.1)))
  | inr r ↦ (let k = has-below (suc x) n w xs u.2 r in (omega (arith, k.0, u.0), k.1))
]

pub any-none : (p : ℕ → Bool) (a n : ℕ) (xs : List ℕ) → UpFrom a n xs → ((c : ℕ) → a ≤ c → c < n → p c ≡ false) → any p xs ≡ false
any-none p a n [] u h = refl
any-none p a n (x ∷ xs) u h = rw (h x u.0 u.1, any-none p (suc x) n xs u.2 (λ c k l. h c (omega (arith, u.0)) l)) refl

pub any-like : (p q : ℕ → Bool) (xs : List ℕ) → ((c : ℕ) → p c ≡ q c) → any p xs ≡ any q xs
any-like p q [] h = refl
any-like p q (x ∷ xs) h = rw (h x, any-like p q xs h) refl

pub up-later : (a b n : ℕ) (xs : List ℕ) → UpFrom a n xs → (x : ℕ) → first_of xs ≡ Some x → b ≤ x → UpFrom b n xs
up-later a b n [] u x e l = tt
up-later a b n (y ∷ ys) u x e l = let q : y ≡ x = cc in (omega arith, u.1, u.2)

-- the row that comes first
pub record First (rows rest : List ℕ) (from at n : ℕ) : Type 0 where
  pub later : from ≤ at
  pub within : at < n
  pub there : has at rows ≡ true
  pub comes : Comes rows rest at n
  pub none : (w : ℕ) → from ≤ w → w < at → has w rows ≡ false

pub comes-first : (rows rest : List ℕ) (from at n : ℕ) → Comes rows rest from n → first_of rest ≡ Some at → First rows rest from at n
comes-first rows [] from at n c e = cc
comes-first rows (x ∷ xs) from at n c e =
    let q : x ≡ at = cc in
    let P : ℕ → Type 0 = λ z. First rows (x ∷ xs) from z n in
    subst P q (record {
      later = c.up.0;
      within = c.up.1;
      there = c.same x c.up.0 ∙ rw (eq-eqb x x refl) refl;
      comes = record { up = (omega arith, c.up.1, c.up.2); same = λ w h. c.same w (omega (arith, c.up.0)) };
      none = λ w h l. c.same w h ∙ rw (ne_eqb x w (λ y. omega arith), has-none (suc x) n w xs c.up.2 (omega arith)) refl;
    })

pub comes-none : (rows rest : List ℕ) (from n : ℕ) → Comes rows rest from n → first_of rest ≡ None → (w : ℕ) → from ≤ w → has w rows ≡ false
comes-none rows [] from n c e w h = c.same w h
comes-none rows (x ∷ xs) from n c e w h = cc

-- later, with no row between
pub comes-later : (rows rest : List ℕ) (from to n : ℕ) → Comes rows rest from n → from ≤ to → ((w : ℕ) → from ≤ w → w < to → has w rows ≡ false) → Comes rows rest to n
comes-later rows [] from to n c l none = record { up = tt; same = λ w h. c.same w (omega arith) }
comes-later rows (x ∷ xs) from to n c l none =
    let at : has x rows ≡ true = c.same x c.up.0 ∙ rw (eq-eqb x x refl) refl in
    let here : x < to → ⊥ = λ k. true≢false (sym at ∙ none x c.up.0 k) in
    record { up = (omega (arith, here), c.up.1, c.up.2); same = λ w h. c.same w (omega arith) }

-- past one row
pub comes-past : (rows rest : List ℕ) (at n : ℕ) → Comes rows rest at n → Comes rows (without at rest) (at + 1) n
comes-past rows [] at n c = record { up = tt; same = λ w h. c.same w (omega arith) }
comes-past rows (x ∷ xs) at n c = go (nat_eq x at) refl
  where
    go : (b : Bool) → nat_eq x at ≡ b → Comes rows (cond b xs (x ∷ xs)) (at + 1) n
    go true e =
        let q : x ≡ at = eqb-true x at e in
        let s : suc x ≡ at + 1 = omega arith in
        record {
          up = subst (λ z. UpFrom z n xs) s c.up.2;
          same = λ w h. c.same w (omega arith) ∙ rw (ne_eqb x w (λ y. omega arith)) refl;
        }
    go false e =
        let ne : x ≡ at → ⊥ = eqb-false x at e in
        record { up = (omega (arith, c.up.0, ne), c.up.1, c.up.2); same = λ w h. c.same w (omega arith) }

-- the row is among the rest exactly where it comes first
pub first-is : (rows rest : List ℕ) (at n : ℕ) → Comes rows rest at n → is_first at rest ≡ has at rows
first-is rows [] at n c = sym (c.same at (omega arith))
first-is rows (x ∷ xs) at n c = sym (c.same at (omega arith) ∙ go (nat_eq x at))
  where
    go : (b : Bool) → (b || has at xs) ≡ b
    go true = refl
    go false = has-none (suc x) n at xs c.up.2 (omega (arith, c.up.0))

-- the rows of a context alone
pub own-next : (rows rest : List ℕ) (from n total : ℕ) → n ≡ total → Comes rows rest from n → (r : Option ℕ) → r ≡ first_of rest → NextIs (λ v. has v rows) (λ at. Comes rows rest at n) from total r
own-next rows rest from n total e c None f = λ w h l. comes-none rows rest from n c (sym f) w h
own-next rows rest from n total e c (Some at) f =
    let k = comes-first rows rest from at n c (sym f) in
    (k.later, omega (arith, k.within), k.there, k.comes, k.none)
