-- Texts and values of one run that needs no closer look.
use Rattle.std.proofs.Common.{◌≡◌, ℕ, suc, ◌+◌, ◌<◌, Bool, true, false, not, cond, ◌&&◌, ◌||◌, nat_eq, List, [], ◌∷◌, ◌++◌, length, map, refl, sym, ap, ◌∙◌, arith, true≢false, Option, Some, None, append-nil}
use Rattle.std.specs.List.{list_all}
use Rattle.std.specs.Option.{option_and_then}
use Rattle.std.specs.Str.{chars, is_utf8, IsAscii}
use Rattle.std.proofs.lemmas.Bool.{eq-eqb}
use Rattle.xq_base.specs.Chars.{is_char}
use Rattle.doc_shred.specs.Rules.{starts, begins}
use Rattle.doc_shred.specs.Parsers.{run, after_run, strip}
use Rattle.doc_shred.specs.Classes.{is_data_byte, is_value_byte, is_plain_value_byte, to_blank, are_chars}
use Rattle.doc_shred.specs.Markup.{joined}
use Rattle.doc_shred.specs.Reading as r
use Rattle.doc_shred.proofs.Exact.{word_exact}
use Rattle.doc_shred.proofs.Gathering.{value_turn, value_closed, text_turn, text_done}
use Rattle.doc_shred.proofs.PlainRuns.{run_all, wider_run, both, all_imply, all_ascii, ascii_spelled, ascii_chars}

-- ---- texts

data_has_text : (bytes : List ℕ) → starts is_data_byte bytes ≡ true → r.has_text bytes ≡ true
data_has_text [] e = absurd (true≢false (sym e))
data_has_text (c ∷ cs) e = ap (λ t. t || begins (Rattle.std.proofs.Common.codes "<![CDATA[") (c ∷ cs)) (both (not (nat_eq c 60)) (not (nat_eq c 38)) e).0

data_part : (bytes : List ℕ) (read : Option (List ℕ × List ℕ)) → starts is_data_byte bytes ≡ true → r.data_run bytes ≡ read → r.text_part bytes ≡ read
unfolding r.text_part
data_part bytes read e d = ap (λ t. cond t (r.data_run bytes) (cond (begins (38 ∷ []) bytes) (r.reference bytes) (r.cdata bytes))) e ∙ d

pub plain_text_read : (bytes text rest : List ℕ) → starts is_data_byte bytes ≡ true → Some (text, rest) ≡ r.data_run bytes → r.has_text rest ≡ false → Some (text, rest) ≡ r.text_run bytes
unfolding r.text_run
plain_text_read [] text rest s e h = absurd (true≢false (sym s))
plain_text_read (c ∷ cs) text rest s e h =
    let turns : length (c ∷ cs) + 1 ≡ suc (suc (length cs)) = omega arith in
    sym (ap (λ n. r.text_from [] n (c ∷ cs)) turns
    ∙ text_turn [] (suc (length cs)) (c ∷ cs) rest text (data_has_text (c ∷ cs) s) (data_part (c ∷ cs) (Some (text, rest)) s (sym e))
    ∙ text_done (text ∷ []) (length cs) rest h
    ∙ ap (λ z. Some (z, rest)) (append-nil text))

-- ---- values

value_low : (quote b : ℕ) → is_plain_value_byte quote b ≡ true → b < 128
unfolding is_plain_value_byte
value_low quote b h = grind arith

value_goes : (quote b : ℕ) → is_plain_value_byte quote b ≡ true → is_value_byte quote b ≡ true
unfolding is_plain_value_byte
value_goes quote b h = grind arith

value_char : (quote b : ℕ) → is_plain_value_byte quote b ≡ true → is_char b ≡ true
unfolding is_plain_value_byte is_char
value_char quote b h = grind arith

value_kept : (quote b : ℕ) → is_plain_value_byte quote b ≡ true → to_blank b ≡ b
unfolding is_plain_value_byte
value_kept quote b h = grind arith

values_kept : (quote : ℕ) (xs : List ℕ) → list_all (is_plain_value_byte quote) xs ≡ true → map to_blank xs ≡ xs
values_kept quote [] e = refl
values_kept quote (x ∷ xs) e =
    let h = both (is_plain_value_byte quote x) (list_all (is_plain_value_byte quote) xs) e in
    ap (λ z. z ∷ map to_blank xs) (value_kept quote x h.0) ∙ ap (λ z. x ∷ z) (values_kept quote xs h.1)

values_spelled : (quote : ℕ) (xs : List ℕ) → list_all (is_plain_value_byte quote) xs ≡ true → are_chars xs ≡ true
unfolding are_chars
values_spelled quote xs e =
    let ascii : IsAscii xs = all_ascii (is_plain_value_byte quote) (value_low quote) xs e in
    ap (λ t. t && list_all is_char (chars xs)) (ascii_spelled xs ascii)
    ∙ ascii_chars is_char xs ascii (all_imply (is_plain_value_byte quote) is_char (value_char quote) xs e)

value_starts : (quote : ℕ) (bytes : List ℕ) → starts (is_plain_value_byte quote) bytes ≡ true → starts (is_value_byte quote) bytes ≡ true
value_starts quote [] e = absurd (true≢false (sym e))
value_starts quote (c ∷ cs) e = value_goes quote c e

value_goes_on_at : (quote : ℕ) (bytes : List ℕ) → starts (is_value_byte quote) bytes ≡ true → r.goes_on quote bytes ≡ true
value_goes_on_at quote [] e = absurd (true≢false (sym e))
value_goes_on_at quote (c ∷ cs) e = (both (not (nat_eq c quote)) (not (nat_eq c 60)) (both (not (nat_eq c quote) && not (nat_eq c 60)) (not (nat_eq c 38)) e).0).0

-- where the quote comes next, no character of the value does
quote_ends : (quote : ℕ) (from rest : List ℕ) → from ≡ quote ∷ rest → (starts (is_value_byte quote) from ≡ false) × (r.goes_on quote from ≡ false)
quote_ends quote from rest e = (
  ap (starts (is_value_byte quote)) e ∙ ap (λ t. not t && not (nat_eq quote 60) && not (nat_eq quote 38)) (eq-eqb quote quote refl),
  ap (r.goes_on quote) e ∙ ap not (eq-eqb quote quote refl),
)

value_read : (quote : ℕ) (bytes xs ys : List ℕ) → starts (is_value_byte quote) bytes ≡ true → run (is_value_byte quote) bytes ≡ xs → after_run (is_value_byte quote) bytes ≡ ys
    → are_chars xs ≡ true → map to_blank xs ≡ xs → r.value_part quote bytes ≡ Some (xs, ys)
unfolding r.value_part
value_read quote bytes xs ys s a b d k = by (starts (is_value_byte quote) bytes) (run (is_value_byte quote) bytes) (after_run (is_value_byte quote) bytes) s a b
  where
    by : (t : Bool) (zs ws : List ℕ) → t ≡ true → zs ≡ xs → ws ≡ ys
        → ◌≡◌ {A = Option (List ℕ × List ℕ)} (cond t (option_and_then (λ (x : List ℕ × List ℕ). option_and_then (λ (y : Unit {0} × List ℕ). Some (map to_blank x.0, y.1)) (cond (are_chars x.0) (Some (tt, x.1)) None)) (cond t (Some (zs, ws)) None)) (r.reference bytes)) (Some (xs, ys))
    by t zs ws s a b = rw s (rw a (rw b (rw d (ap (λ z. Some (z, ys)) k))))

pub plain_value_read : (quote : ℕ) (bytes rest : List ℕ) → starts (is_plain_value_byte quote) bytes ≡ true → strip (quote ∷ []) (after_run (is_plain_value_byte quote) bytes) ≡ Some (tt {0}, rest)
    → Some (run (is_plain_value_byte quote) bytes, rest) ≡ r.value_from quote [] (length bytes + 1) bytes
plain_value_read quote [] rest s e = absurd (true≢false (sym s))
plain_value_read quote (c ∷ cs) rest s e =
    let at : after_run (is_plain_value_byte quote) (c ∷ cs) ≡ quote ∷ rest = (word_exact (quote ∷ [])).sound (after_run (is_plain_value_byte quote) (c ∷ cs)) (tt {0}, rest) e in
    let ends = quote_ends quote (after_run (is_plain_value_byte quote) (c ∷ cs)) rest at in
    let same = wider_run (is_plain_value_byte quote) (is_value_byte quote) (value_goes quote) (c ∷ cs) ends.0 in
    let all = run_all (is_plain_value_byte quote) (c ∷ cs) in
    let start = value_starts quote (c ∷ cs) s in
    let turns : length (c ∷ cs) + 1 ≡ suc (suc (length cs)) = omega arith in
    let part = value_read quote (c ∷ cs) (run (is_plain_value_byte quote) (c ∷ cs)) (after_run (is_plain_value_byte quote) (c ∷ cs)) start same.0 same.1
    (values_spelled quote (run (is_plain_value_byte quote) (c ∷ cs)) all) (values_kept quote (run (is_plain_value_byte quote) (c ∷ cs)) all) in
    sym (ap (λ n. r.value_from quote [] n (c ∷ cs)) turns
    ∙ value_turn quote [] (suc (length cs)) (c ∷ cs) (after_run (is_plain_value_byte quote) (c ∷ cs)) (run (is_plain_value_byte quote) (c ∷ cs)) (value_goes_on_at quote (c ∷ cs) start) part
    ∙ value_closed quote (run (is_plain_value_byte quote) (c ∷ cs) ∷ []) (length cs) (after_run (is_plain_value_byte quote) (c ∷ cs)) (Some (tt {0}, rest)) ends.1 e
    ∙ ap (λ z. Some (z, rest)) (append-nil (run (is_plain_value_byte quote) (c ∷ cs))))
