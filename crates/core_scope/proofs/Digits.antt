-- The number that digits write grows with each of them.
use Rattle.std.proofs.Common.{◌≡◌, ◌≤◌, ◌<◌, refl, sym, ap, ◌∙◌, subst, ℕ, ◌+◌, ◌-◌, ◌*◌, ◌^◌, pos, ℤ, Bool, true, false, cond, nat_le, List, [], ◌∷◌, length, drop, get_or, Option, Some, None, arith}
use Rattle.std.proofs.lemmas.List.{drop_more}
use Rattle.core_scope.specs.Literals.{number_from, number_of, is_wide, integer_in, integer_of}

grows : (n : ℕ) (ds : List ℕ) → n ≤ number_from n ds
grows n [] = omega arith
grows n (d ∷ ds) = omega (arith, grows (10 * n + (d - 48)) ds)

-- digits that begin with those of a number beyond write one
pub beyond : (ds : List ℕ) (n i d : ℕ) → i < length ds → number_of ds ≡ number_from n (drop i ds) → get_or ds i 0 ≡ d →
    9223372036854775807 < n * 10 + (d - 48) → None ≡ integer_in ds
beyond ds n i d l e g w =
    let step : number_of ds ≡ number_from (10 * n + (d - 48)) (drop (i + 1) ds) =
    e ∙ ap (λ x. number_from n x) (drop_more ds i 0 l) ∙ ap (λ x. number_from (10 * n + (x - 48)) (drop (i + 1) ds)) g in
    let low : 10 * n + (d - 48) ≤ number_of ds = subst (λ x. 10 * n + (d - 48) ≤ x) (sym step) (grows (10 * n + (d - 48)) (drop (i + 1) ds)) in
    let wide : is_wide ds ≡ true = grind (arith, low, w) in
    sym (ap (λ b. cond b None (Some (pos (number_of ds)))) wide)

-- whether digits write a number beyond is told by their integer
pub wide_none : (ds : List ℕ) → None ≡ integer_in ds → true ≡ is_wide ds
wide_none ds e = at (is_wide ds) refl e
  where
    at : (b : Bool) → is_wide ds ≡ b → None ≡ cond b None (Some (pos (number_of ds))) → true ≡ is_wide ds
    at true p e = sym p
    at false p e = cc

pub wide_some : (ds : List ℕ) (z : ℤ) → Some z ≡ integer_in ds → false ≡ is_wide ds
wide_some ds z e = at (is_wide ds) refl e
  where
    at : (b : Bool) → is_wide ds ≡ b → Some z ≡ cond b None (Some (pos (number_of ds))) → false ≡ is_wide ds
    at true p e = cc
    at false p e = sym p

-- so is the integer that they write
pub integer_none : (ds : List ℕ) → None ≡ integer_in ds → pos 0 ≡ integer_of ds
integer_none ds e = sym (ap (λ b. cond b (pos 0) (pos (number_of ds))) (sym (wide_none ds e)))

pub integer_some : (ds : List ℕ) (z : ℤ) → Some z ≡ integer_in ds → z ≡ integer_of ds
integer_some ds z e = at (is_wide ds) refl e
  where
    at : (b : Bool) → is_wide ds ≡ b → Some z ≡ cond b None (Some (pos (number_of ds))) → z ≡ integer_of ds
    at true p e = cc
    at false p e = same z (pos (number_of ds)) e ∙ sym (ap (λ b. cond b (pos 0) (pos (number_of ds))) p)
      where
        same : (a b : ℤ) → Some a ≡ Some b → a ≡ b
        same a b e = cc
