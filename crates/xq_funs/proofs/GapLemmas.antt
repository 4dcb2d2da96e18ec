-- Words written a character at a time are the words of the text with one blank between each two.
use Rattle.std.proofs.Common.{◌≡◌, ◌≤◌, ◌<◌, ◌+◌, ◌/◌, ℕ, Bool, true, false, not, ◌||◌, cond, List, [], ◌∷◌, ◌++◌, length, drop, refl, sym, ap, ◌∙◌, arith}
use Rattle.std.specs.Prelude.{nat_eq, nat_lt}
use Rattle.std.specs.Str.{chars, encode_utf8_all, IsUtf8}
use Rattle.std.proofs.Math.Utf8.{encode, next}
use Rattle.std.proofs.lemmas.Bool.{ne_eqb, ltb-true, ltb-false, true≢false}
use Rattle.std.proofs.lemmas.List.{append_assoc}
use Rattle.std.proofs.lemmas.Str.{encode_ascii, encodes-chars}
use Rattle.xq_base.specs.Texts.{Text, is_space, blank, joined}
use Rattle.xq_base.specs.Words.{begins_word, grown, words, space_normalized}
use Rattle.xq_base.proofs.NameTurns.{IsNext, turn, at_end}
use Rattle.xq_funs.specs.declared.spaces.Gap.{Gap}
use Rattle.xq_funs.specs.declared.spaces.Gap.TheVariants as g
use Rattle.xq_funs.specs.Gaps.{behind_space, before_char, spaced, spaced_all}

-- ---- white space is one byte, and no byte of another character is white space

plain : (b : ℕ) → 128 ≤ b → is_space b ≡ false
plain b h = ap (λ z. z || nat_eq b 9 || nat_eq b 10 || nat_eq b 13) (ne_eqb b 32 (λ e. omega (arith, h, e)))
    ∙ ap (λ z. z || nat_eq b 10 || nat_eq b 13) (ne_eqb b 9 (λ e. omega (arith, h, e)))
    ∙ ap (λ z. z || nat_eq b 13) (ne_eqb b 10 (λ e. omega (arith, h, e)))
    ∙ ne_eqb b 13 (λ e. omega (arith, h, e))

abbrev NoSpace : List ℕ → Type 0
NoSpace [] = Unit {0}
NoSpace (b ∷ bs) = (is_space b ≡ false) × NoSpace bs

marks : (c : ℕ) → is_space c ≡ false → NoSpace (encode c)
unfolding encode
marks c h = by (nat_lt c 128) (nat_lt c 2048) (nat_lt c 65536)
  where
    by : (x y z : Bool) → NoSpace (cond x (c ∷ []) (cond y ((192 + c / 64) ∷ next c ∷ []) (cond z ((224 + c / 4096) ∷ next (c / 64) ∷ next c ∷ []) ((240 + c / 262144) ∷ next (c / 4096) ∷ next (c / 64) ∷ next c ∷ []))))
    by true y z = (h, tt)
    by false true z = (plain (192 + c / 64) (omega arith), (plain (next c) (omega arith), tt))
    by false false true = (plain (224 + c / 4096) (omega arith), (plain (next (c / 64)) (omega arith), (plain (next c) (omega arith), tt)))
    by false false false = (plain (240 + c / 262144) (omega arith), (plain (next (c / 4096)) (omega arith), (plain (next (c / 64)) (omega arith), (plain (next c) (omega arith), tt))))

-- its first byte
first : (c : ℕ) → (b : ℕ) × (bs : List ℕ) × (encode c ≡ b ∷ bs)
unfolding encode
first c = by (nat_lt c 128) (nat_lt c 2048) (nat_lt c 65536)
  where
    by : (x y z : Bool) → (b : ℕ) × (bs : List ℕ) × (cond x (c ∷ []) (cond y ((192 + c / 64) ∷ next c ∷ []) (cond z ((224 + c / 4096) ∷ next (c / 64) ∷ next c ∷ []) ((240 + c / 262144) ∷ next (c / 4096) ∷ next (c / 64) ∷ next c ∷ []))) ≡ b ∷ bs)
    by true y z = (_, _, refl)
    by false true z = (_, _, refl)
    by false false true = (_, _, refl)
    by false false false = (_, _, refl)

space-byte : (c : ℕ) → is_space c ≡ true → encode c ≡ c ∷ []
space-byte c h = by (nat_lt c 128) refl
  where
    by : (b : Bool) → nat_lt c 128 ≡ b → encode c ≡ c ∷ []
    by true e = encode_ascii c (ltb-true c 128 e)
    by false e = absurd (true≢false (sym h ∙ plain c (ltb-false c 128 e)))

pub space_small : (c : ℕ) → is_space c ≡ true → c < 128
space_small c h = by (nat_lt c 128) refl
  where
    by : (b : Bool) → nat_lt c 128 ≡ b → c < 128
    by true e = ltb-true c 128 e
    by false e = absurd (true≢false (sym h ∙ plain c (ltb-false c 128 e)))

-- ---- bytes one by one

abbrev written : Gap → Text → Text
written gap [] = []
written gap (c ∷ cs) = cond (is_space c) (written (behind_space gap) cs) (before_char gap ++ c ∷ written g.Inside cs)

inside : (bs rest : Text) → NoSpace bs → written g.Inside (bs ++ rest) ≡ bs ++ written g.Inside rest
inside [] rest h = refl
inside (b ∷ bs) rest h = ap (λ z. cond z (written g.Due (bs ++ rest)) (b ∷ written g.Inside (bs ++ rest))) h.0 ∙ ap (λ z. b ∷ z) (inside bs rest h.1)

past-char : (gap : Gap) (c : ℕ) (rest : Text) → is_space c ≡ false → written gap (encode c ++ rest) ≡ before_char gap ++ (encode c ++ written g.Inside rest)
past-char gap c rest h = by (encode c) (first c).0 (first c).1 (first c).2 (marks c h)
  where
    by : (e : List ℕ) (b : ℕ) (bs : List ℕ) → e ≡ b ∷ bs → NoSpace e → written gap (e ++ rest) ≡ before_char gap ++ (e ++ written g.Inside rest)
    by [] b bs e n = cc
    by (x ∷ xs) b bs e n = ap (λ z. cond z (written (behind_space gap) (xs ++ rest)) (before_char gap ++ x ∷ written g.Inside (xs ++ rest))) n.0 ∙ ap (λ z. before_char gap ++ x ∷ z) (inside xs rest n.1)

past-space : (gap : Gap) (c : ℕ) (rest : Text) → is_space c ≡ true → written gap (encode c ++ rest) ≡ written (behind_space gap) rest
past-space gap c rest h = ap (λ z. written gap (z ++ rest)) (space-byte c h) ∙ ap (λ z. cond z (written (behind_space gap) rest) (before_char gap ++ c ∷ written g.Inside rest)) h

by-characters : (t : Text) (gap : Gap) (cs : List ℕ) → (spaced_all (t, gap) cs).0 ≡ t ++ written gap (encode_utf8_all cs)
by-characters t gap [] = sym (append-none t)
  where
    append-none : (t : Text) → t ++ [] ≡ t
    append-none [] = refl
    append-none (x ∷ xs) = ap (λ z. x ∷ z) (append-none xs)
by-characters t gap (c ∷ cs) = by (is_space c) refl (by-characters t (behind_space gap) cs) (by-characters ((t ++ before_char gap) ++ encode c) g.Inside cs)
  where
    by : (b : Bool) → is_space c ≡ b → (spaced_all (t, behind_space gap) cs).0 ≡ t ++ written (behind_space gap) (encode_utf8_all cs)
        → (spaced_all ((t ++ before_char gap) ++ encode c, g.Inside) cs).0 ≡ ((t ++ before_char gap) ++ encode c) ++ written g.Inside (encode_utf8_all cs)
        → (spaced_all (spaced (t, gap) c) cs).0 ≡ t ++ written gap (encode c ++ encode_utf8_all cs)
    by true e p q = ap (λ z. (spaced_all (cond z (t, behind_space gap) ((t ++ before_char gap) ++ encode c, g.Inside)) cs).0) e ∙ p ∙ ap (λ z. t ++ z) (sym (past-space gap c (encode_utf8_all cs) e))
    by false e p q = ap (λ z. (spaced_all (cond z (t, behind_space gap) ((t ++ before_char gap) ++ encode c, g.Inside)) cs).0) e ∙ q
        ∙ together t (before_char gap) (encode c) (written g.Inside (encode_utf8_all cs))
        ∙ ap (λ z. t ++ z) (sym (past-char gap c (encode_utf8_all cs) e))
      where
        together : (a b d e : Text) → ((a ++ b) ++ d) ++ e ≡ a ++ (b ++ (d ++ e))
        together a b d e = simp append_assoc

-- ---- and words

abbrev after-blank : List Text → Text
after-blank [] = []
after-blank (w ∷ ws) = blank ++ joined blank (w ∷ ws)

one-more : (c : ℕ) (ws : List Text) → joined blank ((c ∷ []) ∷ ws) ≡ c ∷ after-blank ws
one-more c [] = refl
one-more c (w ∷ ws) = refl

longer : (c d : ℕ) (w : Text) (ws : List Text) → joined blank ((c ∷ d ∷ w) ∷ ws) ≡ c ∷ joined blank ((d ∷ w) ∷ ws)
longer c d w [] = refl
longer c d w (v ∷ ws) = refl

-- a character before a word lengthens it
grown-joined : (c d : ℕ) (b : Bool) (ws : List Text) → joined blank (grown c true (grown d b ws)) ≡ c ∷ joined blank (grown d b ws)
grown-joined c d true [] = refl
grown-joined c d true (w ∷ ws) = longer c d w ws
grown-joined c d false ws = longer c d [] ws

due-joined : (d : ℕ) (b : Bool) (ws : List Text) → after-blank (grown d b ws) ≡ 32 ∷ joined blank (grown d b ws)
due-joined d true [] = refl
due-joined d true (w ∷ ws) = refl
due-joined d false ws = refl

mutual
  inside-word : (c : ℕ) (t : Text) → c ∷ written g.Inside t ≡ joined blank (grown c (begins_word t) (words t))
  inside-word c [] = refl
  inside-word c (d ∷ ds) = by (is_space d) (behind-word ds) (inside-word d ds) refl
    where
      by : (b : Bool) → written g.Due ds ≡ after-blank (words ds) → d ∷ written g.Inside ds ≡ joined blank (grown d (begins_word ds) (words ds)) → is_space d ≡ b → c ∷ written g.Inside (d ∷ ds) ≡ joined blank (grown c (not (is_space d)) (cond (is_space d) (words ds) (grown d (begins_word ds) (words ds))))
      by true p q e = rw e (ap (λ z. c ∷ z) p ∙ sym (one-more c (words ds)))
      by false p q e = rw e (ap (λ z. c ∷ z) q ∙ sym (grown-joined c d (begins_word ds) (words ds)))

  behind-word : (t : Text) → written g.Due t ≡ after-blank (words t)
  behind-word [] = refl
  behind-word (d ∷ ds) = by (is_space d) (behind-word ds) (inside-word d ds) refl
    where
      by : (b : Bool) → written g.Due ds ≡ after-blank (words ds) → d ∷ written g.Inside ds ≡ joined blank (grown d (begins_word ds) (words ds)) → is_space d ≡ b → written g.Due (d ∷ ds) ≡ after-blank (cond (is_space d) (words ds) (grown d (begins_word ds) (words ds)))
      by true p q e = rw e p
      by false p q e = rw e (ap (λ z. 32 ∷ z) q ∙ sym (due-joined d (begins_word ds) (words ds)))

from-start : (t : Text) → written g.Start t ≡ space_normalized t
from-start [] = refl
from-start (d ∷ ds) = by (is_space d) (from-start ds) refl
  where
    by : (b : Bool) → written g.Start ds ≡ space_normalized ds → is_space d ≡ b → written g.Start (d ∷ ds) ≡ joined blank (cond (is_space d) (words ds) (grown d (begins_word ds) (words ds)))
    by true p e = rw e p
    by false p e = rw e (inside-word d ds)

-- ---- the loop

pub spaced_turn : (s : Text × Gap) (next : Text × Gap) (all : Text × Gap) (cs yielded : List ℕ) (c : ℕ) → IsNext cs yielded c → next ≡ spaced s c
    → spaced_all s (drop (length yielded) cs) ≡ all → spaced_all next (drop (length (yielded ++ c ∷ [])) cs) ≡ all
spaced_turn s next all cs yielded c h e i = ap (λ z. spaced_all z (drop (length (yielded ++ c ∷ [])) cs)) e ∙ sym (turn (spaced_all s) cs yielded c h) ∙ i

pub spaced_end : (out : Text) (gap : Gap) (t : Text) (yielded : List ℕ) → IsUtf8 t → length yielded ≡ length (chars t)
    → spaced_all (out, gap) (drop (length yielded) (chars t)) ≡ spaced_all ([], g.Start) (chars t) → out ≡ space_normalized t
spaced_end out gap t yielded u e i =
    ap (λ (s : Text × Gap). s.0) (sym (at_end (spaced_all (out, gap)) (chars t) yielded e) ∙ i)
    ∙ by-characters [] g.Start (chars t) ∙ ap (written g.Start) (encodes-chars t u) ∙ from-start t
