-- Digits one by one give the integer that they spell, or none where it is beyond 64 bits.
use Rattle.std.proofs.Common.{◌≡◌, ◌<◌, ◌≤◌, ◌+◌, ◌-◌, ◌*◌, ◌^◌, ℕ, zero, suc, Bool, true, false, ◌&&◌, [], ◌∷◌, length, Some, None, refl, arith}
use Rattle.std.proofs.lemmas.Bool.{leb-true, leb-false}
use Rattle.std.specs.Prelude.{nat_le}
use Rattle.xq_base.specs.Texts.{Text, digits_in, digits_from, with_sign, if_fits}
use Rattle.xq_funs.specs.Numerals.{whole_from, minus_then}

none-fits : (negative : Bool) (n : ℕ) → 2 ^ 63 < n → if_fits (with_sign negative (Some n)) ≡ None
none-fits negative zero h = absurd (omega arith)
none-fits true (suc n) h = grind arith
none-fits false (suc n) h = grind arith

too-great : (negative : Bool) (n : ℕ) (cs : Text) → 2 ^ 63 < n → if_fits (with_sign negative (digits_from n cs)) ≡ None
too-great negative n [] h = none-fits negative n h
too-great negative n (c ∷ cs) h = by (nat_le 48 c && nat_le c 57) (too-great negative (10 * n + (c - 48)) cs (omega (arith, h))) refl
  where
    by : (b : Bool) → if_fits (with_sign negative (digits_from (10 * n + (c - 48)) cs)) ≡ None → (nat_le 48 c && nat_le c 57) ≡ b → if_fits (with_sign negative (digits_from n (c ∷ cs))) ≡ None
    by true next e = rw e next
    by false next e = rw e refl

spelled-from : (negative : Bool) (n : ℕ) (cs : Text) → n ≤ 2 ^ 63 → if_fits (with_sign negative (digits_from n cs)) ≡ minus_then negative (whole_from n cs)
spelled-from negative n [] h = refl
spelled-from negative n (c ∷ cs) h = by (nat_le 48 c && nat_le c 57) (nat_le (10 * n + (c - 48)) (2 ^ 63)) (spelled-from negative (10 * n + (c - 48)) cs) refl refl
  where
    by : (a b : Bool) → (10 * n + (c - 48) ≤ 2 ^ 63 → if_fits (with_sign negative (digits_from (10 * n + (c - 48)) cs)) ≡ minus_then negative (whole_from (10 * n + (c - 48)) cs))
        → (nat_le 48 c && nat_le c 57) ≡ a → nat_le (10 * n + (c - 48)) (2 ^ 63) ≡ b
        → if_fits (with_sign negative (digits_from n (c ∷ cs))) ≡ minus_then negative (whole_from n (c ∷ cs))
    by false b next e d = rw e refl
    by true true next e d = rw e (rw d (next (leb-true (10 * n + (c - 48)) (2 ^ 63) d)))
    by true false next e d = rw e (rw d (too-great negative (10 * n + (c - 48)) cs (leb-false (10 * n + (c - 48)) (2 ^ 63) d)))

pub number_law : (negative : Bool) (cs : Text) → (length cs ≡ 0 → ⊥) → if_fits (with_sign negative (digits_in cs)) ≡ minus_then negative (whole_from 0 cs)
number_law negative [] h = absurd (h refl)
number_law negative (c ∷ cs) h = spelled-from negative 0 (c ∷ cs) (omega arith)
