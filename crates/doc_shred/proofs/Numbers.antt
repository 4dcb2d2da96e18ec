-- Numbers of characters: one that is too great counts as one that no character has.
use Rattle.std.proofs.Common.{◌≡◌, ℕ, ◌+◌, ◌*◌, ◌<◌, ◌≤◌, min, Bool, true, false, List, [], ◌∷◌, ◌++◌, refl, sym, ap, ◌∙◌, arith, cond, ◌⊎◌, inl, inr, Some, None, option_and_then}
use Rattle.std.specs.Char.{digit_value, encode_utf8}
use Rattle.std.proofs.lemmas.Bool.{cases_lt}
use Rattle.std.proofs.lemmas.Bool.Decides.{nat_tests}
use Rattle.xq_base.specs.Chars.{is_char}
use Rattle.doc_shred.specs.Classes.{number}
use Rattle.doc_shred.specs.Views.{radix_of}
use Rattle.doc_shred.specs.Parsers.{strip}
use Rattle.doc_shred.specs.Reading as r

pub number-push : (radix before d : ℕ) (ds : List ℕ) → number radix before (ds ++ d ∷ []) ≡ number radix before ds * radix + digit_value d
number-push radix before d [] = refl
number-push radix before d (e ∷ es) = number-push radix (before * radix + digit_value e) d es

pub step_capped : (hexadecimal : Bool) (n d : ℕ) → min (min n 0x11_0000 * radix_of hexadecimal + d) 0x11_0000 ≡ min (n * radix_of hexadecimal + d) 0x11_0000
step_capped true n d = omega arith
step_capped false n d = omega arith

pub great_no_char : (n : ℕ) → 0x11_0000 ≤ n → is_char n ≡ false
unfolding is_char
great_no_char n l = grind (arith, nat_tests)

pub capped : (n : ℕ) (bytes : List ℕ) → r.numbered (min n 0x11_0000) bytes ≡ r.numbered n bytes
unfolding r.numbered
capped n bytes = by (cases_lt n 0x11_0000)
  where
    by : (n < 0x11_0000) ⊎ (0x11_0000 ≤ n) → r.numbered (min n 0x11_0000) bytes ≡ r.numbered n bytes
    by (inl l) = let e : min n 0x11_0000 ≡ n = omega arith in ap (λ m. r.numbered m bytes) e
    by (inr l) =
        let e : min n 0x11_0000 ≡ 0x11_0000 = omega arith in
        ap (λ m. r.numbered m bytes) e ∙ nothing 0x11_0000 (omega arith) ∙ sym (nothing n l)
      where
        nothing : (m : ℕ) → 0x11_0000 ≤ m → r.numbered m bytes ≡ None
        nothing m h = ap (λ b. option_and_then (λ (x : Unit {0} × List ℕ). Some (encode_utf8 m, x.1)) (option_and_then (λ (x : Unit {0} × List ℕ). strip (59 ∷ []) x.1) (cond b (Some (tt {0}, bytes)) None))) (great_no_char m h)
