-- Runs of ASCII that need no closer look: they spell what the productions ask for.
use Rattle.std.proofs.Common.{◌≡◌, ℕ, suc, ◌<◌, Bool, true, false, not, cond, zero, ◌&&◌, ◌||◌, nat_eq, nat_le, List, [], ◌∷◌, ◌++◌, refl, sym, ap, ◌∙◌, arith, true≢false, Option, Some, None}
use Rattle.std.specs.Option.{option_and_then}
use Rattle.std.specs.List.{list_all, slice_index}
use Rattle.std.specs.Int.{is_in_range}
use Rattle.std.specs.Str.{chars, is_utf8, IsAscii}
use Rattle.std.proofs.lemmas.Str.{chars-IsAscii, IsUtf8-from_ascii, is_utf8-from_IsUtf8}
use Rattle.xq_base.specs.Chars.{is_char, is_name, is_name_start, is_name_char}
use Rattle.doc_shred.specs.Rules.{starts, begins, holds}
use Rattle.doc_shred.specs.Parsers.{run, after_run}
use Rattle.doc_shred.specs.Classes.{is_plain_byte, is_plain_value_byte, is_plain_name_byte, is_data_byte, is_value_byte, is_name_byte, are_chars, are_data, is_name_text}
use Rattle.doc_shred.specs.Reading as r

-- ---- bytes

pub plain_low : (b : ℕ) → is_plain_byte b ≡ true → b < 128
unfolding is_plain_byte
plain_low b h = grind arith

pub plain_data : (b : ℕ) → is_plain_byte b ≡ true → is_data_byte b ≡ true
unfolding is_plain_byte
plain_data b h = grind arith

pub plain_char : (b : ℕ) → is_plain_byte b ≡ true → is_char b ≡ true
unfolding is_plain_byte is_char
plain_char b h = grind arith

pub plain_unbracketed : (b : ℕ) → is_plain_byte b ≡ true → nat_eq b 93 ≡ false
unfolding is_plain_byte
plain_unbracketed b h = grind arith

-- ---- runs

pub run_all : (p : ℕ → Bool) (bytes : List ℕ) → list_all p (run p bytes) ≡ true
run_all p [] = refl
run_all p (c ∷ cs) = by (p c) refl (run_all p cs)
  where
    by : (b : Bool) → p c ≡ b → list_all p (run p cs) ≡ true → list_all p (cond b (c ∷ run p cs) []) ≡ true
    by true e next = ap (λ t. t && list_all p (run p cs)) e ∙ next
    by false e next = refl

-- a run of a class is one of a greater class, where no byte of that comes next
pub wider_run : (p q : ℕ → Bool) → ((b : ℕ) → p b ≡ true → q b ≡ true) → (bytes : List ℕ) → starts q (after_run p bytes) ≡ false
    → (run q bytes ≡ run p bytes) × (after_run q bytes ≡ after_run p bytes)
wider_run p q h [] e = (refl, refl)
wider_run p q h (c ∷ cs) e = by (p c) refl e (wider_run p q h cs)
  where
    by : (b : Bool) → p c ≡ b → starts q (cond b (after_run p cs) (c ∷ cs)) ≡ false
        → (starts q (after_run p cs) ≡ false → (run q cs ≡ run p cs) × (after_run q cs ≡ after_run p cs))
        → (run q (c ∷ cs) ≡ cond b (c ∷ run p cs) []) × (after_run q (c ∷ cs) ≡ cond b (after_run p cs) (c ∷ cs))
    by true t e next = (
      ap (λ z. cond z (c ∷ run q cs) []) (h c t) ∙ ap (λ z. c ∷ z) (next e).0,
      ap (λ z. cond z (after_run q cs) (c ∷ cs)) (h c t) ∙ (next e).1,
    )
    by false t e next = (
      ap (λ z. cond z (c ∷ run q cs) []) e,
      ap (λ z. cond z (after_run q cs) (c ∷ cs)) e,
    )

-- ---- texts

pub both : (a b : Bool) → a && b ≡ true → (a ≡ true) × (b ≡ true)
both true b e = (refl, e)
both false b e = absurd (true≢false (sym e))

pub all_imply : (p q : ℕ → Bool) → ((b : ℕ) → p b ≡ true → q b ≡ true) → (xs : List ℕ) → list_all p xs ≡ true → list_all q xs ≡ true
all_imply p q h [] e = refl
all_imply p q h (x ∷ xs) e = ap (λ t. t && list_all q xs) (h x (both (p x) (list_all p xs) e).0) ∙ all_imply p q h xs (both (p x) (list_all p xs) e).1

pub all_ascii : (p : ℕ → Bool) → ((b : ℕ) → p b ≡ true → b < 128) → (xs : List ℕ) → list_all p xs ≡ true → IsAscii xs
all_ascii p h [] e = λ i. omega arith
all_ascii p h (x ∷ xs) e = at (all_ascii p h xs (both (p x) (list_all p xs) e).1)
  where
    at : IsAscii xs → (i : ℕ) → slice_index (x ∷ xs) i < 128
    at next zero = h x (both (p x) (list_all p xs) e).0
    at next (suc i) = next i

pub ascii_spelled : (xs : List ℕ) → IsAscii xs → is_utf8 xs ≡ true
ascii_spelled xs h = is_utf8-from_IsUtf8 xs (IsUtf8-from_ascii xs h)

pub ascii_chars : (q : ℕ → Bool) (xs : List ℕ) → IsAscii xs → list_all q xs ≡ true → list_all q (chars xs) ≡ true
ascii_chars q xs h e = ap (list_all q) (chars-IsAscii xs h) ∙ e

-- characters without `]` don't hold "]]>"
pub unbracketed : (xs : List ℕ) → list_all (λ b. not (nat_eq b 93)) xs ≡ true → holds (93 ∷ 93 ∷ 62 ∷ []) xs ≡ false
unbracketed [] e = refl
unbracketed (x ∷ xs) e =
    let h = both (not (nat_eq x 93)) (list_all (λ b. not (nat_eq b 93)) xs) e in
    by (nat_eq x 93) h.0 (unbracketed xs h.1)
  where
    by : (b : Bool) → not b ≡ true → holds (93 ∷ 93 ∷ 62 ∷ []) xs ≡ false
        → cond b (begins (93 ∷ 62 ∷ []) xs) false || holds (93 ∷ 93 ∷ 62 ∷ []) xs ≡ false
    by true n next = absurd (true≢false (sym n))
    by false n next = next

pub plain_are_data : (xs : List ℕ) → list_all is_plain_byte xs ≡ true → are_data xs ≡ true
unfolding are_data are_chars
plain_are_data xs e =
    let ascii : IsAscii xs = all_ascii is_plain_byte plain_low xs e in
    let spelled : is_utf8 xs ≡ true = ascii_spelled xs ascii in
    let passed : list_all is_char (chars xs) ≡ true = ascii_chars is_char xs ascii (all_imply is_plain_byte is_char plain_char xs e) in
    let clear : holds (93 ∷ 93 ∷ 62 ∷ []) xs ≡ false = unbracketed xs (all_imply is_plain_byte (λ b. not (nat_eq b 93)) (λ b h. ap not (plain_unbracketed b h)) xs e) in
    ap (λ t. (t && list_all is_char (chars xs)) && not (holds (93 ∷ 93 ∷ 62 ∷ []) xs)) spelled
    ∙ ap (λ t. t && not (holds (93 ∷ 93 ∷ 62 ∷ []) xs)) passed
    ∙ ap not clear

-- ---- names

pub plain_name_low : (b : ℕ) → is_plain_name_byte b ≡ true → b < 128
unfolding is_plain_name_byte
plain_name_low b h = grind arith

pub plain_name_char : (b : ℕ) → is_plain_name_byte b ≡ true → is_name_char b ≡ true
unfolding is_plain_name_byte is_name_char is_name_start
plain_name_char b h = grind arith

pub plain_name_goes : (b : ℕ) → is_plain_name_byte b ≡ true → is_name_byte b ≡ true
unfolding is_name_byte
plain_name_goes b h = ap (λ t. nat_le 128 b || t) (plain_name_char b h) ∙ last (nat_le 128 b)
  where
    last : (t : Bool) → t || true ≡ true
    last true = refl
    last false = refl

pub plain_is_name : (xs : List ℕ) → starts is_name_start xs ≡ true → list_all is_plain_name_byte xs ≡ true → is_name_text xs ≡ true
unfolding is_name_text
plain_is_name [] s e = absurd (true≢false (sym s))
plain_is_name (x ∷ xs) s e =
    let ascii : IsAscii (x ∷ xs) = all_ascii is_plain_name_byte plain_name_low (x ∷ xs) e in
    let spelled : is_utf8 (x ∷ xs) ≡ true = ascii_spelled (x ∷ xs) ascii in
    let rest : list_all is_name_char xs ≡ true = all_imply is_plain_name_byte is_name_char plain_name_char xs (both (is_plain_name_byte x) (list_all is_plain_name_byte xs) e).1 in
    ap (λ t. t && is_name (chars (x ∷ xs))) spelled ∙ ap is_name (chars-IsAscii (x ∷ xs) ascii)
    ∙ ap (λ t. t && list_all is_name_char xs) s ∙ rest

-- ---- what is read

pub plain_starts : (bytes : List ℕ) → starts is_plain_byte bytes ≡ true → starts is_data_byte bytes ≡ true
plain_starts [] e = absurd (true≢false (sym e))
plain_starts (c ∷ cs) e = plain_data c e

pub plain_data_run : (bytes : List ℕ) → starts is_plain_byte bytes ≡ true → starts is_data_byte (after_run is_plain_byte bytes) ≡ false
    → Some (run is_plain_byte bytes, after_run is_plain_byte bytes) ≡ r.data_run bytes
unfolding r.data_run
plain_data_run bytes s e =
    let same = wider_run is_plain_byte is_data_byte plain_data bytes e in
    let passed : are_data (run is_plain_byte bytes) ≡ true = plain_are_data (run is_plain_byte bytes) (run_all is_plain_byte bytes) in
    by (run is_plain_byte bytes) (after_run is_plain_byte bytes) (starts is_data_byte bytes) (run is_data_byte bytes) (after_run is_data_byte bytes) (plain_starts bytes s) same.0 same.1 passed
  where
    by : (xs ys : List ℕ) (t : Bool) (zs ws : List ℕ) → t ≡ true → zs ≡ xs → ws ≡ ys → are_data xs ≡ true
        → ◌≡◌ {A = Option (List ℕ × List ℕ)} (Some (xs, ys)) (option_and_then (λ (x : List ℕ × List ℕ). option_and_then (λ (y : Unit {0} × List ℕ). Some (x.0, y.1)) (cond (are_data x.0) (Some (tt, x.1)) None)) (cond t (Some (zs, ws)) None))
    by xs ys t zs ws a b c d = rw a (rw b (rw c (rw d refl)))

pub plain_name_read : (bytes : List ℕ) → starts is_name_byte (after_run is_plain_name_byte bytes) ≡ false → starts is_name_start (run is_plain_name_byte bytes) ≡ true
    → Some (run is_plain_name_byte bytes, after_run is_plain_name_byte bytes) ≡ r.name bytes
unfolding r.name
plain_name_read bytes e s =
    let same = wider_run is_plain_name_byte is_name_byte plain_name_goes bytes e in
    let named : is_name_text (run is_plain_name_byte bytes) ≡ true = plain_is_name (run is_plain_name_byte bytes) s (run_all is_plain_name_byte bytes) in
    by (run is_plain_name_byte bytes) (after_run is_plain_name_byte bytes) (run is_name_byte bytes) (after_run is_name_byte bytes) same.0 same.1 named
  where
    by : (xs ys : List ℕ) (zs ws : List ℕ) → zs ≡ xs → ws ≡ ys → is_name_text xs ≡ true
        → ◌≡◌ {A = Option (List ℕ × List ℕ)} (Some (xs, ys)) (option_and_then (λ (y : Unit {0} × List ℕ). Some (zs, y.1)) (cond (is_name_text zs) (Some (tt, ws)) None))
    by xs ys zs ws b c d = rw b (rw c (rw d refl))
