-- White space that becomes blanks, in characters and in bytes.
use Rattle.std.proofs.Common.{◌≡◌, ℕ, ◌+◌, ◌/◌, ◌%◌, ◌<◌, ◌≤◌, Bool, true, false, cond, nat_lt, List, [], ◌∷◌, ◌++◌, map, refl, sym, ap, ◌∙◌, arith, ◌⊎◌, inl, inr, append_assoc, append-nil}
use Rattle.std.specs.Char.{encode_utf8}
use Rattle.std.specs.Str.{encode_utf8_all, chars, IsUtf8}
use Rattle.std.proofs.lemmas.Bool.{cases_lt}
use Rattle.std.proofs.lemmas.Bool.Decides.{nat_tests}
use Rattle.std.proofs.lemmas.List.{map-append}
use Rattle.std.proofs.lemmas.Str.{encode_ascii, encodes-append, encodes-chars}
use Rattle.doc_shred.specs.Classes.{is_blank, to_blank}

-- a great byte is no white space
great : (b : ℕ) → 128 ≤ b → to_blank b ≡ b
great b l = ap (λ t. cond t 32 b) (no_blank b l)
  where
    no_blank : (b : ℕ) → 128 ≤ b → is_blank b ≡ false
    no_blank b l = grind (arith, nat_tests)

small : (c : ℕ) → c < 128 → to_blank c < 128
small c l = by (is_blank c)
  where
    by : (b : Bool) → cond b 32 c < 128
    by true = omega arith
    by false = l

encoded : (c : ℕ) → encode_utf8 (to_blank c) ≡ map to_blank (encode_utf8 c)
unfolding encode_utf8
encoded c = by (cases_lt c 128)
  where
    same : (a b d : Bool) → 128 ≤ c
        → map to_blank (cond a (c ∷ []) (cond b ((192 + c / 64) ∷ (128 + c % 64) ∷ []) (cond d ((224 + c / 4096) ∷ (128 + c / 64 % 64) ∷ (128 + c % 64) ∷ []) ((240 + c / 262144) ∷ (128 + c / 4096 % 64) ∷ (128 + c / 64 % 64) ∷ (128 + c % 64) ∷ []))))
        ≡ cond a (c ∷ []) (cond b ((192 + c / 64) ∷ (128 + c % 64) ∷ []) (cond d ((224 + c / 4096) ∷ (128 + c / 64 % 64) ∷ (128 + c % 64) ∷ []) ((240 + c / 262144) ∷ (128 + c / 4096 % 64) ∷ (128 + c / 64 % 64) ∷ (128 + c % 64) ∷ [])))
    same true b d l = ap (λ z. z ∷ []) (great c l)
    same false true d l = two (great (192 + c / 64) (omega arith)) (great (128 + c % 64) (omega arith))
      where
        two : {x y x' y' : ℕ} → x ≡ x' → y ≡ y' → x ∷ y ∷ [] ≡ x' ∷ y' ∷ []
        two p q = cc
    same false false true l = three (great (224 + c / 4096) (omega arith)) (great (128 + c / 64 % 64) (omega arith)) (great (128 + c % 64) (omega arith))
      where
        three : {x y z x' y' z' : ℕ} → x ≡ x' → y ≡ y' → z ≡ z' → x ∷ y ∷ z ∷ [] ≡ x' ∷ y' ∷ z' ∷ []
        three p q r = cc
    same false false false l = four (great (240 + c / 262144) (omega arith)) (great (128 + c / 4096 % 64) (omega arith)) (great (128 + c / 64 % 64) (omega arith)) (great (128 + c % 64) (omega arith))
      where
        four : {x y z w x' y' z' w' : ℕ} → x ≡ x' → y ≡ y' → z ≡ z' → w ≡ w' → x ∷ y ∷ z ∷ w ∷ [] ≡ x' ∷ y' ∷ z' ∷ w' ∷ []
        four p q r s = cc

    by : (c < 128) ⊎ (128 ≤ c) → encode_utf8 (to_blank c) ≡ map to_blank (encode_utf8 c)
    by (inl l) = encode_ascii (to_blank c) (small c l) ∙ ap (map to_blank) (sym (encode_ascii c l))
    by (inr l) = ap encode_utf8 (great c l) ∙ sym (same (nat_lt c 128) (nat_lt c 2048) (nat_lt c 65536) l)

encoded_all : (cs : List ℕ) → encode_utf8_all (map to_blank cs) ≡ map to_blank (encode_utf8_all cs)
encoded_all [] = refl
encoded_all (c ∷ cs) =
    ap (λ z. z ++ encode_utf8_all (map to_blank cs)) (encoded c) ∙ ap (λ z. map to_blank (encode_utf8 c) ++ z) (encoded_all cs)
    ∙ sym (map-append to_blank (encode_utf8 c) (encode_utf8_all cs))

-- one character more
pub one_blanked : (old now new : List ℕ) (c d : ℕ) (cs : List ℕ) → now ≡ old ++ encode_utf8_all (map to_blank cs) → new ≡ now ++ encode_utf8 d → d ≡ to_blank c → new ≡ old ++ encode_utf8_all (map to_blank (cs ++ c ∷ []))
one_blanked old now new c d cs e f g =
    f ∙ ap (λ z. z ++ encode_utf8 d) e ∙ append_assoc old (encode_utf8_all (map to_blank cs)) (encode_utf8 d)
    ∙ ap (λ z. old ++ (encode_utf8_all (map to_blank cs) ++ encode_utf8 z)) g
    ∙ ap (λ z. old ++ (encode_utf8_all (map to_blank cs) ++ z)) (sym (append-nil (encode_utf8 (to_blank c))))
    ∙ ap (λ z. old ++ z) (sym (encodes-append (map to_blank cs) (to_blank c ∷ [])))
    ∙ ap (λ z. old ++ encode_utf8_all z) (sym (map-append to_blank cs (c ∷ [])))

-- all of them
pub all_blanked : (old now text : List ℕ) (cs : List ℕ) → IsUtf8 text → now ≡ old ++ encode_utf8_all (map to_blank cs) → cs ≡ chars text → now ≡ old ++ map to_blank text
all_blanked old now text cs u e f =
    e ∙ ap (λ z. old ++ encode_utf8_all (map to_blank z)) f ∙ ap (λ z. old ++ z) (encoded_all (chars text) ∙ ap (map to_blank) (encodes-chars text u))
