-- What a search by a test finds in a list.
use Rattle.std.proofs.Common.{◌≡◌, ◌∙◌, ◌<◌, ◌≤◌, ◌+◌, ℕ, zero, suc, Bool, true, false, not, cond, List, [], ◌∷◌, length, Some, slice_get, refl, sym, ap, arith, true≢false}
use Rattle.std.specs.List.{position_or_len}

module _ {X : Type 0} (p : X → Bool) where
  -- the element at the place that is found passes
  pub found_at : (xs : List X) → position_or_len p xs < length xs → (y : X) × (slice_get xs (position_or_len p xs) ≡ Some y) × (p y ≡ true)
  found_at [] h = absurd (omega (arith, h))
  found_at (x ∷ xs) h = by (p x) refl h (found_at xs)
    where
      by : (b : Bool) → p x ≡ b → cond (not b) (1 + position_or_len p xs) 0 < suc (length xs)
          → (position_or_len p xs < length xs → (y : X) × (slice_get xs (position_or_len p xs) ≡ Some y) × (p y ≡ true))
          → (y : X) × (slice_get (x ∷ xs) (cond (not b) (1 + position_or_len p xs) 0) ≡ Some y) × (p y ≡ true)
      by true e l next = (x, refl, e)
      by false e l next =
          let one : 1 + position_or_len p xs ≡ suc (position_or_len p xs) = omega arith in
          let r = next (omega (arith, l)) in
          (r.0, ap (slice_get (x ∷ xs)) one ∙ r.1, r.2)

  -- no element passes where none is found
  pub not_there : (xs : List X) → length xs ≤ position_or_len p xs → (i : ℕ) (y : X) → slice_get xs i ≡ Some y → p y ≡ true → ⊥
  not_there [] l i y at e = cc
  not_there (x ∷ xs) l i y at e = by (p x) refl l i at (not_there xs)
    where
      by : (b : Bool) → p x ≡ b → suc (length xs) ≤ cond (not b) (1 + position_or_len p xs) 0 → (i : ℕ) → slice_get (x ∷ xs) i ≡ Some y
          → (length xs ≤ position_or_len p xs → (i : ℕ) (y : X) → slice_get xs i ≡ Some y → p y ≡ true → ⊥) → ⊥
      by true t m i at next = absurd (omega (arith, m))
      by false t m zero at next = let same : x ≡ y = cc in true≢false (sym e ∙ ap p (sym same) ∙ t)
      by false t m (suc j) at next = next (omega (arith, m)) j y at e
