-- Texts cut at white space, which is one byte.
use Rattle.std.proofs.Common.{◌≡◌, ◌↔◌, ◌<◌, ◌-◌, ℕ, suc, Bool, true, false, cond, [], ◌∷◌, ◌++◌, length, take, drop, reverse, map, get_or, refl, sym, ap, ◌∙◌, arith}
use Rattle.std.specs.Prelude.{codes, IsTrue, slice_range}
use Rattle.std.specs.Char.{to_ascii_lowercase}
use Rattle.std.specs.Str.{IsUtf8, IsCharBoundary}
use Rattle.std.proofs.lemmas.Bool.{false≢true}
use Rattle.std.proofs.lemmas.List.{reverse-append, reverse-reverse}
use Rattle.std.proofs.lemmas.Str.{IsCharBoundary-after_ascii, IsCharBoundary-before_ascii}
use Rattle.xq_base.specs.Texts.{Text, text_eq, trimmed_start}
use Rattle.doc_table.specs.Content.{lower, lowered}
use Rattle.doc_table.proofs.TextTests.{text-refl, text-sound}
use Rattle.xq_funs.specs.Trims.{begins_blank, ends_blank}
use Rattle.xq_funs.proofs.GapLemmas.{space_small}

-- ---- at the start

pub blank_first : (t : Text) → begins_blank t ≡ true → (0 < length t) × (get_or t 0 0 < 128)
blank_first [] e = absurd (false≢true e)
blank_first (c ∷ cs) e = (omega arith, space_small c e)

pub cut_first : (t : Text) → IsUtf8 t → begins_blank t ≡ true → IsCharBoundary t 1
cut_first t u e = let b = blank_first t e in IsCharBoundary-after_ascii t 0 u b.0 b.1

pub trimmed_more : (t : Text) → begins_blank t ≡ true → trimmed_start (drop 1 t) ≡ trimmed_start t
trimmed_more [] e = absurd (false≢true e)
trimmed_more (c ∷ cs) e = sym (ap (λ b. cond b (trimmed_start cs) (c ∷ cs)) e)

pub trimmed_done : (t : Text) → begins_blank t ≡ false → trimmed_start t ≡ t
trimmed_done [] e = refl
trimmed_done (c ∷ cs) e = ap (λ b. cond b (trimmed_start cs) (c ∷ cs)) e

-- ---- at the end

front-last : (t : Text) (x : ℕ) (xs : Text) → reverse t ≡ x ∷ xs → t ≡ reverse xs ++ x ∷ []
front-last t x xs e = sym (reverse-reverse t) ∙ ap reverse e ∙ reverse-append (x ∷ []) xs

front-taken : (front : Text) (x : ℕ) → take (length (front ++ x ∷ []) - 1) (front ++ x ∷ []) ≡ front
front-taken [] x = refl
front-taken (c ∷ cs) x =
    let e : length ((c ∷ cs) ++ x ∷ []) - 1 ≡ suc (length (cs ++ x ∷ []) - 1) = let p = some cs x in omega (arith, p) in
    ap (λ n. take n ((c ∷ cs) ++ x ∷ [])) e ∙ ap (λ z. c ∷ z) (front-taken cs x)
  where
    some : (cs : Text) (x : ℕ) → 0 < length (cs ++ x ∷ [])
    some [] x = omega arith
    some (d ∷ ds) x = omega arith

last-byte : (front : Text) (x : ℕ) → (0 < length (front ++ x ∷ [])) × (get_or (front ++ x ∷ []) (length (front ++ x ∷ []) - 1) 0 ≡ x)
last-byte [] x = (omega arith, refl)
last-byte (c ∷ cs) x =
    let p = last-byte cs x in
    let e : length ((c ∷ cs) ++ x ∷ []) - 1 ≡ suc (length (cs ++ x ∷ []) - 1) = let q = p.0 in omega (arith, q) in
    (omega arith, ap (λ n. get_or ((c ∷ cs) ++ x ∷ []) n 0) e ∙ p.1)

pub record LastBlank (t : Text) : Type 0 where
  pub front : Text
  pub byte : ℕ
  pub is : t ≡ front ++ byte ∷ []
  pub back : reverse t ≡ byte ∷ reverse front
  pub small : byte < 128

pub last_blank : (t : Text) → ends_blank t ≡ true → LastBlank t
last_blank t e = by (reverse t) refl e
  where
    by : (r : Text) → reverse t ≡ r → begins_blank r ≡ true → LastBlank t
    by [] d h = absurd (false≢true h)
    by (x ∷ xs) d h = record {
      front = reverse xs;
      byte = x;
      is = front-last t x xs d;
      back = d ∙ ap (λ z. x ∷ z) (sym (reverse-reverse xs));
      small = space_small x h;
    }

pub blank_last : (t : Text) → ends_blank t ≡ true → (0 < length t) × (get_or t (length t - 1) 0 < 128)
blank_last t e =
    let l = last_blank t e in
    let b = last-byte l.front l.byte in
    let s = l.small in
    let n : length t ≡ length (l.front ++ l.byte ∷ []) = ap length l.is in
    let last : get_or t (length t - 1) 0 ≡ l.byte = ap (λ z. get_or z (length z - 1) 0) l.is ∙ b.1 in
    (let p = b.0 in omega (arith, n, p), omega (arith, last, s))

pub cut_last : (t : Text) → ends_blank t ≡ true → IsCharBoundary t (length t - 1)
cut_last t e = let b = blank_last t e in IsCharBoundary-before_ascii t (length t - 1) (let p = b.0 in omega (arith, p)) b.1

pub trimmed_back : (t : Text) → ends_blank t ≡ true → trimmed_start (reverse (take (length t - 1) t)) ≡ trimmed_start (reverse t)
trimmed_back t e =
    let l = last_blank t e in
    let front : take (length t - 1) t ≡ l.front = ap (λ z. take (length z - 1) z) l.is ∙ front-taken l.front l.byte in
    ap (λ z. trimmed_start (reverse z)) front ∙ trimmed_more (l.byte ∷ reverse l.front) (ap begins_blank (sym l.back) ∙ e) ∙ ap trimmed_start (sym l.back)

pub range_back : (t r : Text) → ends_blank t ≡ true → r ≡ slice_range t 0 (length t - 1) → trimmed_start (reverse r) ≡ trimmed_start (reverse t)
range_back t r e v =
    let n : length t - 1 - 0 ≡ length t - 1 = omega arith in
    ap (λ z. trimmed_start (reverse z)) (v ∙ ap (λ k. take k t) n) ∙ trimmed_back t e

pub untrimmed_back : (t : Text) → ends_blank t ≡ false → reverse (trimmed_start (reverse t)) ≡ t
untrimmed_back t e = ap reverse (trimmed_done (reverse t) e) ∙ reverse-reverse t

-- ---- letter case

lowers : (c : ℕ) → to_ascii_lowercase c ≡ lower c
lowers c = grind arith

lowered-map : (t : Text) → map to_ascii_lowercase t ≡ lowered t
lowered-map [] = refl
lowered-map (c ∷ cs) = ap (λ z. z ∷ map to_ascii_lowercase cs) (lowers c) ∙ ap (λ z. lower c ∷ z) (lowered-map cs)

both-ways : (a b : Bool) → (a ≡ true → b ≡ true) → (b ≡ true → a ≡ true) → a ≡ b
both-ways true true f g = refl
both-ways false false f g = refl
both-ways true false f g = sym (f refl)
both-ways false true f g = g refl

pub is_word : (b : Bool) (t : Text) → IsTrue b ↔ (map to_ascii_lowercase t ≡ map to_ascii_lowercase (codes "xml")) → b ≡ text_eq (lowered t) (codes "xml")
is_word b t h = both-ways b (text_eq (lowered t) (codes "xml"))
    (λ e. ap (λ z. text_eq z (codes "xml")) (sym (lowered-map t) ∙ h.0 e) ∙ text-refl (codes "xml"))
    (λ e. h.1 (lowered-map t ∙ text-sound (lowered t) (codes "xml") e))
