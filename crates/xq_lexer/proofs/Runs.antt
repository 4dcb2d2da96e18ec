-- One turn of a loop over the characters of a run, and over the bytes of a word.
use Rattle.std.proofs.Common.{◌≡◌, ℕ, zero, suc, ◌+◌, ◌-◌, ◌<◌, ◌≤◌, Bool, true, false, ◌&&◌, ◌==◌, nat_lt, List, [], ◌∷◌, length, drop, get_or, refl, sym, ap, ◌∙◌, arith}
use Rattle.std.proofs.lemmas.Grind.{common_steps}
use Rattle.xq_lexer.specs.Classes.{has_no_zero}
use Rattle.xq_ast.specs.Bytes.{byte, width, char_at, char_ends, follows}

goes : (is : ℕ → Bool) (text : List ℕ) (n at : ℕ) → is (char_at text at) ≡ true → char_ends is text (suc n) at ≡ char_ends is text n (at + width (byte text at))
unfolding char_ends
goes is text n at t = rw t refl

pub char_goes : (is : ℕ → Bool) (text : List ℕ) (n turn at whole : ℕ) → turn < n → is (char_at text at) ≡ true → whole ≡ char_ends is text (n - turn) at → whole ≡ char_ends is text (n - (turn + 1)) (at + width (byte text at))
char_goes is text n turn at whole l t h = let e : n - turn ≡ suc (n - (turn + 1)) = omega arith in h ∙ ap (λ m. char_ends is text m at) e ∙ goes is text (n - (turn + 1)) at t

stops : (is : ℕ → Bool) (text : List ℕ) (n at : ℕ) → is (char_at text at) ≡ false → char_ends is text n at ≡ at
unfolding char_ends
stops is text zero at t = refl
stops is text (suc n) at t = rw t refl

pub char_stops : (is : ℕ → Bool) (text : List ℕ) (n at whole : ℕ) → is (char_at text at) ≡ false → whole ≡ char_ends is text n at → at ≡ whole
char_stops is text n at whole t h = sym (h ∙ stops is text n at t)

pub follows_step : (word text : List ℕ) (i at : ℕ) → i < length word → follows (drop i word) text at ≡ (byte text at == get_or word i 0 && follows (drop (suc i) word) text (at + 1))
follows_step [] text i at h = absurd (omega (arith, h))
follows_step (c ∷ cs) text zero at h = refl
follows_step (c ∷ cs) text (suc i) at h = follows_step cs text i at (omega (arith, h))

inside : (ts : List ℕ) (p : ℕ) → 0 < get_or ts p 0 → p < length ts
inside [] p h = absurd (omega (arith, h))
inside (t ∷ ts) zero h = omega arith
inside (t ∷ ts) (suc p) h = omega (arith, inside ts p h)

pub follows_inside : (word text : List ℕ) (at : ℕ) → at ≤ length text → has_no_zero word ≡ true → follows word text at ≡ true → at + length word ≤ length text
follows_inside [] text at l z f = omega (arith, l)
follows_inside (c ∷ cs) text at l z f = step (byte text at == c) refl (nat_lt 0 c) refl (λ i q g. follows_inside cs text (at + 1) i q g) z f
  where
    step : (b : Bool) → (byte text at == c) ≡ b → (d : Bool) → nat_lt 0 c ≡ d → (at + 1 ≤ length text → has_no_zero cs ≡ true → follows cs text (at + 1) ≡ true → at + 1 + length cs ≤ length text)
        → (d && has_no_zero cs) ≡ true → (b && follows cs text (at + 1)) ≡ true → at + length (c ∷ cs) ≤ length text
    step true e true n rest q g =
        let i : at < length text = inside text at (grind (arith, common_steps)) in
        omega (arith, rest (omega (arith, i)) q g)
    step true e false n rest q g = cc
    step false e d n rest q g = cc

no_more : (word : List ℕ) (i : ℕ) → length word ≤ i → drop i word ≡ []
no_more [] zero h = refl
no_more [] (suc i) h = refl
no_more (c ∷ cs) zero h = absurd (omega (arith, h))
no_more (c ∷ cs) (suc i) h = no_more cs i (omega (arith, h))

pub follows_end : (word text : List ℕ) (i at : ℕ) (whole : Bool) → length word ≤ i → whole ≡ follows (drop i word) text at → whole ≡ true
follows_end word text i at whole h e = e ∙ ap (λ w. follows w text at) (no_more word i h)
