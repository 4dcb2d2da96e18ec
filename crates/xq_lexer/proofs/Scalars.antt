-- A number that is no character is in no class of names.
use Rattle.std.proofs.Common.{◌≡◌, ℕ, zero, suc, ◌<◌, ◌≤◌, Bool, true, false, ◌&&◌, refl, sym, ◌∙◌, arith}
use Rattle.std.proofs.lemmas.Bool.Decides.{nat_tests}
use Rattle.xq_base.specs.Chars.{is_name_start, is_name_char}
use Rattle.std.specs.Char.{OutOfScalarRange}
use Rattle.xq_lexer.specs.Classes.{name_test}

pub no_start : (c : ℕ) → OutOfScalarRange c → is_name_start c ≡ false
unfolding is_name_start
no_start c h = grind (arith, nat_tests)

pub no_char : (c : ℕ) → OutOfScalarRange c → is_name_char c ≡ false
unfolding is_name_char is_name_start
no_char c h = grind (arith, nat_tests)

start_some : is_name_start 0 ≡ false
unfolding is_name_start
start_some = refl

char_some : is_name_char 0 ≡ false
unfolding is_name_char is_name_start
char_some = refl

-- what is in a class of names is a character
pub some_char : (colon : Bool) (c : ℕ) → name_test colon c ≡ true → 0 < c
some_char true zero h = let e = sym h ∙ char_some in cc
some_char false zero h = step (is_name_char 0) char_some h
  where
    step : (b : Bool) → b ≡ false → (b && true) ≡ true → 0 < 0
    step true e h = cc
    step false e h = cc
some_char colon (suc n) h = omega arith

pub start_char : (c : ℕ) → is_name_start c ≡ true → 0 < c
start_char zero h = let e = sym h ∙ start_some in cc
start_char (suc n) h = omega arith
