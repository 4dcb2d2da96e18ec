-- Numbers of characters: one that is too great counts as one that no character has.
use Rattle.std.proofs.Common.{◌≡◌, ℕ, ◌+◌, ◌*◌, ◌<◌, ◌≤◌, min, Bool, true, false, ◌&&◌, ◌==◌, nat_lt, List, [], ◌∷◌, ◌++◌, length, slice_range, refl, sym, ap, ◌∙◌, arith, cond, ◌⊎◌, inl, inr, Option, Some, None}
use Rattle.std.specs.Char.{digit_value}
use Rattle.std.proofs.lemmas.Bool.{cases_lt}
use Rattle.std.proofs.lemmas.Bool.Decides.{nat_tests}
use Rattle.std.proofs.lemmas.Grind.{common_steps}
use Rattle.xq_base.specs.Chars.{is_char}
use Rattle.xq_ast.specs.Bytes.{byte}
use Rattle.xq_ast.specs.Values.{number, numbered}
use Rattle.xq_lexer.specs.Radix.{radix_of}

pub number-push : (radix before d : ℕ) (ds : List ℕ) → number radix before (ds ++ d ∷ []) ≡ number radix before ds * radix + digit_value d
number-push radix before d [] = refl
number-push radix before d (e ∷ es) = number-push radix (before * radix + digit_value e) d es

pub step_capped : (hexadecimal : Bool) (n d : ℕ) → min (min n 0x11_0000 * radix_of hexadecimal + d) 0x11_0000 ≡ min (n * radix_of hexadecimal + d) 0x11_0000
step_capped true n d = omega arith
step_capped false n d = omega arith

great_no_char : (n : ℕ) → 0x11_0000 ≤ n → is_char n ≡ false
unfolding is_char
great_no_char n l = grind (arith, nat_tests)

pub capped : (n : ℕ) → cond (is_char (min n 0x11_0000)) (Some (min n 0x11_0000)) None ≡ cond (is_char n) (Some n) None
capped n = by (cases_lt n 0x11_0000)
  where
    by : (n < 0x11_0000) ⊎ (0x11_0000 ≤ n) → cond (is_char (min n 0x11_0000)) (Some (min n 0x11_0000)) None ≡ cond (is_char n) (Some n) None
    by (inl l) = let e : min n 0x11_0000 ≡ n = omega arith in ap (λ m. cond (is_char m) (Some m) None) e
    by (inr l) = let a = great_no_char n l in let b = great_no_char (min n 0x11_0000) (omega (arith, l)) in rw (a, b) refl
