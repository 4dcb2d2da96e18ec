-- The first of refusals of two kinds is the first of the firsts; the first of a list is one of the list.
use Rattle.std.proofs.Common.{◌≡◌, refl, sym, ap, subst, ◌∙◌, ℕ, zero, suc, ◌<◌, ◌≤◌, length, Bool, true, false, cond, ◌&&◌, ◌||◌, nat_lt, nat_eq, List, [], ◌∷◌, Option, Some, None, ◌⊎◌, inl, inr, Contains, slice_index_or, arith}
use Rattle.core_scope.specs.declared.refusal.Refusal.{Refusal}
use Rattle.core_scope.specs.Refusals.{rank, is_before, earlier, first_from}
use Rattle.core_scope.specs.Leasts.{IsLeast, first_of_two}

abbrev before : ℕ → ℕ → ℕ → ℕ → Bool
before o p s t = nat_lt o s || (nat_eq o s && nat_lt p t)

later : (o p s t : ℕ) → before o p s t ≡ false → (s < o) ⊎ ((o ≡ s) × (t ≤ p))
later o p s t h = at (nat_lt o s) (nat_eq o s) (nat_lt p t) refl refl refl h
  where
    at : (a b d : Bool) → nat_lt o s ≡ a → nat_eq o s ≡ b → nat_lt p t ≡ d → (a || (b && d)) ≡ false → (s < o) ⊎ ((o ≡ s) × (t ≤ p))
    at true b d x y z e = cc
    at false true true x y z e = cc
    at false true false x y z e = inr (grind (arith, y), grind (arith, z))
    at false false d x y z e = inl (grind (arith, x, y))

not_before : (o p s t : ℕ) → (s < o) ⊎ ((o ≡ s) × (t ≤ p)) → before o p s t ≡ false
not_before o p s t (inl h) =
    let a : nat_lt o s ≡ false = grind (arith, h) in
    let b : nat_eq o s ≡ false = grind (arith, h) in
    rw (a, b) refl
not_before o p s t (inr h) =
    let a : nat_lt o s ≡ false = grind (arith, h.0) in
    let d : nat_lt p t ≡ false = grind (arith, h.1) in
    let either : (b : Bool) → (b && false) ≡ false = both_false in
    rw (a, d) (either (nat_eq o s))
  where
    both_false : (b : Bool) → (b && false) ≡ false
    both_false true = refl
    both_false false = refl

behind_both : (o p s t i j : ℕ) → (s < o) ⊎ ((o ≡ s) × (t ≤ p)) → (i < s) ⊎ ((s ≡ i) × (j ≤ t)) → (i < o) ⊎ ((o ≡ i) × (j ≤ p))
behind_both o p s t i j (inl h) (inl k) = inl (omega (arith, h, k))
behind_both o p s t i j (inl h) (inr k) = inl (omega (arith, h, k.0))
behind_both o p s t i j (inr h) (inl k) = inl (omega (arith, h.0, k))
behind_both o p s t i j (inr h) (inr k) = inr (omega (arith, h.0, k.0), omega (arith, h.1, k.1))

-- what stands behind one that stands behind another stands behind this one
pub not_before_both : (x a b : Refusal) → is_before x a ≡ false → is_before a b ≡ false → is_before x b ≡ false
not_before_both x a b h k =
    not_before x.offset (rank x.code) b.offset (rank b.code)
    (behind_both x.offset (rank x.code) a.offset (rank a.code) b.offset (rank b.code)
    (later x.offset (rank x.code) a.offset (rank a.code) h) (later a.offset (rank a.code) b.offset (rank b.code) k))

turned : (o p s t : ℕ) → before o p s t ≡ true → before s t o p ≡ false
turned o p s t h = at (before s t o p) refl
  where
    at : (b : Bool) → before s t o p ≡ b → before s t o p ≡ false
    at false e = e
    at true e = grind (arith, h, e)

pub before_turned : (a b : Refusal) → is_before a b ≡ true → is_before b a ≡ false
before_turned a b h = turned a.offset (rank a.code) b.offset (rank b.code) h

module _ (P Q : Refusal → Type 0) where
  two_at : (b : Bool) (r s : Refusal) → is_before s r ≡ b → IsLeast P (Some r) → IsLeast Q (Some s) → IsLeast (λ x. P x ⊎ Q x) (Some (cond b s r))
  two_at true r s e p q = (inr q.0, λ x. at x)
    where
      at : (x : Refusal) → P x ⊎ Q x → is_before x s ≡ false
      at x (inl y) = not_before_both x r s (p.1 x y) (before_turned s r e)
      at x (inr y) = q.1 x y
  two_at false r s e p q = (inl p.0, λ x. at x)
    where
      at : (x : Refusal) → P x ⊎ Q x → is_before x r ≡ false
      at x (inl y) = p.1 x y
      at x (inr y) = not_before_both x s r (q.1 x y) e

  pub first_of_both : (a b : Option Refusal) → IsLeast P a → IsLeast Q b → IsLeast (λ x. P x ⊎ Q x) (first_of_two a b)
  first_of_both None None p q = λ x. none x
    where
      none : (x : Refusal) → P x ⊎ Q x → ⊥
      none x (inl y) = p x y
      none x (inr y) = q x y
  first_of_both None (Some s) p q = (inr q.0, λ x. at x)
    where
      at : (x : Refusal) → P x ⊎ Q x → is_before x s ≡ false
      at x (inl y) = let nothing : ⊥ = p x y in elim nothing [ ]
      at x (inr y) = q.1 x y
  first_of_both (Some r) None p q = (inl p.0, λ x. at x)
    where
      at : (x : Refusal) → P x ⊎ Q x → is_before x r ≡ false
      at x (inl y) = p.1 x y
      at x (inr y) = let nothing : ⊥ = q x y in elim nothing [ ]
  first_of_both (Some r) (Some s) p q = two_at (is_before s r) r s refl p q

-- the first by a relation is so by another that has the same refusals
pub least_same : (P Q : Refusal → Type 0) (o : Option Refusal) → ((x : Refusal) → P x → Q x) → ((x : Refusal) → Q x → P x) → IsLeast P o → IsLeast Q o
least_same P Q None f g l = λ x q. l x (g x q)
least_same P Q (Some r) f g l = (f r l.0, λ x q. l.1 x (g x q))

pub not_before_itself : (r : Refusal) → is_before r r ≡ false
not_before_itself r = not_before r.offset (rank r.code) r.offset (rank r.code) (inr (refl, omega arith))
