-- The first occurrence of one text in another, and its beginning and end, as std finds them.
use Rattle.std.proofs.Common.{◌≡◌, ◌≤◌, ◌<◌, ◌+◌, ◌-◌, ℕ, zero, suc, Bool, true, false, ◌&&◌, cond, List, [], ◌∷◌, ◌++◌, length, take, drop, reverse, Option, Some, None, refl, sym, ap, ◌∙◌, arith}
use Rattle.std.specs.Prelude.{nat_eq, MatchOption}
use Rattle.std.specs.List as l
use Rattle.std.specs.Cmp.Lexicographic.{pointwise}
use Rattle.std.specs.Str.Pattern.{LacksTextAt, FindsText, SplitsAroundMatch}
use Rattle.std.proofs.lemmas.Bool.{and_parts, eqb-true, eq-eqb, false≢true}
use Rattle.std.proofs.lemmas.List.{drop_at, reverse-append, reverse-reverse, take-append-drop, length-append}
use Rattle.xq_base.specs.Texts.{Text, text_eq}
use Rattle.xq_base.specs.Words.{starts_with, ends_with, parted, behind_char}
use Rattle.doc_table.proofs.TextTests.{text-refl, text-sound}
use Rattle.xq_funs.proofs.Ordered.{texts_same}
use denote.Ref.{Bor}

pub begins : (t u : Text) → starts_with t u ≡ true → t ≡ u ++ drop (length u) t
begins [] [] e = refl
begins (c ∷ cs) [] e = refl
begins [] (d ∷ ds) e = absurd (false≢true e)
begins (c ∷ cs) (d ∷ ds) e =
    let p = and_parts (nat_eq c d) (starts_with cs ds) e in
    ap (λ z. z ∷ cs) (eqb-true c d p.0) ∙ ap (λ z. d ∷ z) (begins cs ds p.1)

pub begun : (u rest : Text) → starts_with (u ++ rest) u ≡ true
begun [] [] = refl
begun [] (c ∷ cs) = refl
begun (d ∷ ds) rest = ap (λ b. b && starts_with (ds ++ rest) ds) (eq-eqb d d refl) ∙ begun ds rest

-- ---- where a text occurs first

by-first : (s u : Text) → LacksTextAt u s 0 → starts_with s u ≡ false
by-first s u h = at (starts_with s u) refl
  where
    at : (b : Bool) → starts_with s u ≡ b → starts_with s u ≡ false
    at true e = absurd (h (drop (length u) s) (begins s u e))
    at false e = e

pub lacking : (u s : Text) → ((i : ℕ) → i ≤ length s → LacksTextAt u s i) → parted s u ≡ None
lacking u [] h = ap (λ b. cond b (Some ([], [])) None) (by-first [] u (h 0 (omega arith)))
lacking u (c ∷ cs) h =
    ap (λ b. cond b (Some ([], drop (length u) (c ∷ cs))) (behind_char c (parted cs u))) (by-first (c ∷ cs) u (h 0 (omega arith)))
    ∙ ap (behind_char c) (lacking u cs (λ i l. h (suc i) (omega (arith, l))))

pub occurring : (u s : Text) (i : ℕ) (rest : Text) → i ≤ length s → ((k : ℕ) → k < i → LacksTextAt u s k) → drop i s ≡ u ++ rest → parted s u ≡ Some (take i s, rest)
occurring u [] zero rest l h e = ap (λ b. cond b (Some ([], [])) None) (ap (λ z. starts_with z u) e ∙ begun u rest) ∙ ap (λ z. Some ([], z)) (none u rest e)
  where
    none : (u rest : Text) → [] ≡ u ++ rest → [] ≡ rest
    none [] rest e = e
    none (d ∷ ds) rest e = cc
occurring u (c ∷ cs) zero rest l h e =
    ap (λ b. cond b (Some ([], drop (length u) (c ∷ cs))) (behind_char c (parted cs u))) (ap (λ z. starts_with z u) e ∙ begun u rest)
    ∙ ap (λ z. Some ([], z)) (ap (drop (length u)) e ∙ drop_at u rest (length u) refl)
occurring u [] (suc i) rest l h e = absurd (omega (arith, l))
occurring u (c ∷ cs) (suc i) rest l h e =
    ap (λ b. cond b (Some ([], drop (length u) (c ∷ cs))) (behind_char c (parted cs u))) (by-first (c ∷ cs) u (h 0 (omega arith)))
    ∙ ap (behind_char c) (occurring u cs i rest (omega (arith, l)) (λ k m. h (suc k) (omega (arith, m))) e)

pub split_law : (s u : Text) (r : Option (Bor (List ℕ) × Bor (List ℕ))) → MatchOption r (FindsText u s None) (λ x. SplitsAroundMatch (FindsText u) s x.0.now x.1.now)
    → MatchOption r (parted s u ≡ None) (λ p. parted s u ≡ Some (p.0.now, p.1.now))
split_law s u None h = lacking u s h
split_law s u (Some x) h = cut h.0 h.1 h.2 h.3 h.4 h.7
  where
    cut : (i j : ℕ) → FindsText u s (Some (i, j)) → x.0.now ≡ take i s → x.1.now ≡ drop j s → length x.1.now + j ≡ length s → parted s u ≡ Some (x.0.now, x.1.now)
    cut i j f a b m = occurring u s i (drop j s) (let k = f.1.ends in omega (arith, m, k)) f.0 f.1.split ∙ ap (λ z. Some (z, drop j s)) (sym a) ∙ ap (λ z. Some (x.0.now, z)) (sym b)

-- ---- beginnings and ends

both-ways : (a b : Bool) → (a ≡ true → b ≡ true) → (b ≡ true → a ≡ true) → a ≡ b
both-ways true true f g = refl
both-ways false false f g = refl
both-ways true false f g = sym (f refl)
both-ways false true f g = g refl

alike : (t u : Text) → pointwise nat_eq t u ≡ true → t ≡ u
alike t u e = text-sound t u (sym (texts_same t u) ∙ e)

itself : (t u : Text) → t ≡ u → pointwise nat_eq t u ≡ true
itself t u e = texts_same t u ∙ ap (text_eq t) (sym e) ∙ text-refl t

take-own : (u rest : Text) → take (length u) (u ++ rest) ≡ u
take-own [] rest = refl
take-own (d ∷ ds) rest = ap (λ z. d ∷ z) (take-own ds rest)

pub starts_same : (t u : Text) → l.starts_with nat_eq t u ≡ starts_with t u
starts_same t u = both-ways (l.starts_with nat_eq t u) (starts_with t u)
    (λ e. ap (λ z. starts_with z u) (sym (take-append-drop (length u) t) ∙ ap (λ z. z ++ drop (length u) t) (sym (alike u (take (length u) t) e))) ∙ begun u (drop (length u) t))
    (λ e. itself u (take (length u) t) (sym (ap (take (length u)) (begins t u e) ∙ take-own u (drop (length u) t))))

behind : (t u front : Text) → t ≡ front ++ u → drop (length t - length u) t ≡ u
behind t u front e = ap (λ z. drop (length z - length u) z) e ∙ drop_at front u (length (front ++ u) - length u) (sym (omega (arith, length-append front u)))

pub ends_same : (t u : Text) → l.ends_with nat_eq t u ≡ ends_with t u
ends_same t u = both-ways (l.ends_with nat_eq t u) (ends_with t u)
    (λ e.
    let k : ℕ = length t - length u in
    let split : t ≡ take k t ++ u = sym (take-append-drop k t) ∙ ap (λ z. take k t ++ z) (sym (alike u (drop k t) e)) in
    ap (λ z. starts_with z (reverse u)) (ap reverse split ∙ reverse-append (take k t) u) ∙ begun (reverse u) (reverse (take k t)))
    (λ e.
    let rest : Text = drop (length (reverse u)) (reverse t) in
    let split : t ≡ reverse rest ++ u = sym (reverse-reverse t) ∙ ap reverse (begins (reverse t) (reverse u) e) ∙ reverse-append (reverse u) rest ∙ ap (λ z. reverse rest ++ z) (reverse-reverse u) in
    itself u (drop (length t - length u) t) (sym (behind t u (reverse rest) split)))
