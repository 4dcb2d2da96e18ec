-- Entries noted one by one give each character what the first place of it in the second text does.
use Rattle.std.proofs.Common.{◌≡◌, ◌<◌, ◌+◌, ℕ, zero, suc, Bool, true, false, cond, List, [], ◌∷◌, ◌++◌, length, drop, get_or, flat_map, Option, Some, None, refl, sym, ap, ◌∙◌, arith}
use Rattle.std.specs.Prelude.{nat_eq}
use Rattle.std.specs.Option.{is_some}
use Rattle.std.specs.Map.{lookup}
use Rattle.std.specs.Str.{chars, encode_utf8_all}
use Rattle.std.proofs.lemmas.Bool.{eqb-true}
use Rattle.std.proofs.lemmas.List.{at_drop_more}
use Rattle.std.proofs.lemmas.Str.{encodes-append}
use Rattle.indexmap.specs.IndexMap.{insert_entry}
use Rattle.xq_base.specs.Texts.{Text}
use Rattle.xq_base.specs.Words.{mapped_char, front_char, other_chars, text_mapped}
use Rattle.xq_funs.specs.Replacements.{Entries, with_entry, first_or_none, entries_from, chars_or, in_place}

abbrev first-of : Option (Option ℕ) → Option (Option ℕ) → Option (Option ℕ)
first-of None y = y
first-of (Some x) y = Some x

lookup-new : (es : Entries) (c d : ℕ) (o : Option ℕ) → lookup (nat_eq c) es ≡ None → lookup (nat_eq d) (insert_entry nat_eq es c o) ≡ first-of (lookup (nat_eq d) es) (cond (nat_eq d c) (Some o) None)
lookup-new [] c d o h = refl
lookup-new (e ∷ es) c d o h = by (nat_eq c e.0) (nat_eq d e.0) refl refl h (lookup-new es c d o)
  where
    by : (x y : Bool) → nat_eq c e.0 ≡ x → nat_eq d e.0 ≡ y → cond (nat_eq c e.0) (Some e.1) (lookup (nat_eq c) es) ≡ None
        → (lookup (nat_eq c) es ≡ None → lookup (nat_eq d) (insert_entry nat_eq es c o) ≡ first-of (lookup (nat_eq d) es) (cond (nat_eq d c) (Some o) None))
        → lookup (nat_eq d) (insert_entry nat_eq (e ∷ es) c o) ≡ first-of (cond (nat_eq d e.0) (Some e.1) (lookup (nat_eq d) es)) (cond (nat_eq d c) (Some o) None)
    by true y p q h r = let k = sym (ap (λ b. cond b (Some e.1) (lookup (nat_eq c) es)) p) ∙ h in cc
    by false true p q h r = rw p (rw q refl)
    by false false p q h r = rw p (rw q (r (sym (ap (λ b. cond b (Some e.1) (lookup (nat_eq c) es)) p) ∙ h)))

-- what a list of entries says, and else what is left of both texts
found : (es : Entries) (cs to : List ℕ) (d : ℕ) → chars_or (lookup (nat_eq d) (entries_from es cs to)) (d ∷ []) ≡ chars_or (lookup (nat_eq d) es) (mapped_char cs to d)
found es [] to d = refl
found es (c ∷ cs) to d = found (with_entry es c (first_or_none to)) cs (other_chars to) d ∙ by (lookup (nat_eq c) es) (nat_eq d c) refl refl
  where
    front : (to rest : List ℕ) → chars_or (Some (first_or_none to)) rest ≡ front_char to
    front [] rest = refl
    front (t ∷ ts) rest = refl

    held : (w : Option ℕ) (xs ys : List ℕ) → chars_or (Some w) xs ≡ chars_or (Some w) ys
    held None xs ys = refl
    held (Some x) xs ys = refl

    new : (l : Option (Option ℕ)) (b : Bool) (rest : List ℕ) → chars_or (first-of l (cond b (Some (first_or_none to)) None)) rest ≡ chars_or l (cond b (front_char to) rest)
    new None true rest = front to rest
    new None false rest = refl
    new (Some w) b rest = held w rest (cond b (front_char to) rest)

    by : (l : Option (Option ℕ)) (b : Bool) → lookup (nat_eq c) es ≡ l → nat_eq d c ≡ b
        → chars_or (lookup (nat_eq d) (with_entry es c (first_or_none to))) (mapped_char cs (other_chars to) d) ≡ chars_or (lookup (nat_eq d) es) (cond (nat_eq d c) (front_char to) (mapped_char cs (other_chars to) d))
    by None b e q =
        ap (λ o. chars_or (lookup (nat_eq d) (cond (is_some o) es (insert_entry nat_eq es c (first_or_none to)))) (mapped_char cs (other_chars to) d)) e
        ∙ ap (λ o. chars_or o (mapped_char cs (other_chars to) d)) (lookup-new es c d (first_or_none to) e)
        ∙ new (lookup (nat_eq d) es) (nat_eq d c) (mapped_char cs (other_chars to) d)
    by (Some w) false e q =
        ap (λ o. chars_or (lookup (nat_eq d) (cond (is_some o) es (insert_entry nat_eq es c (first_or_none to)))) (mapped_char cs (other_chars to) d)) e
        ∙ ap (λ b. chars_or (lookup (nat_eq d) es) (cond b (front_char to) (mapped_char cs (other_chars to) d))) (sym q)
    by (Some w) true e q =
        let here : lookup (nat_eq d) es ≡ Some w = ap (λ n. lookup (nat_eq n) es) (eqb-true d c q) ∙ e in
        ap (λ o. chars_or (lookup (nat_eq d) (cond (is_some o) es (insert_entry nat_eq es c (first_or_none to)))) (mapped_char cs (other_chars to) d)) e
        ∙ ap (λ o. chars_or o (mapped_char cs (other_chars to) d)) here
        ∙ held w (mapped_char cs (other_chars to) d) (cond (nat_eq d c) (front_char to) (mapped_char cs (other_chars to) d))
        ∙ ap (λ o. chars_or o (cond (nat_eq d c) (front_char to) (mapped_char cs (other_chars to) d))) (sym here)

placed : (es : Entries) (f : ℕ → List ℕ) → ((d : ℕ) → chars_or (lookup (nat_eq d) es) (d ∷ []) ≡ f d) → (cs : List ℕ) → flat_map (in_place es) cs ≡ encode_utf8_all (flat_map f cs)
placed es f h [] = refl
placed es f h (c ∷ cs) = ap (λ z. encode_utf8_all z ++ flat_map (in_place es) cs) (h c) ∙ ap (λ z. encode_utf8_all (f c) ++ z) (placed es f h cs) ∙ sym (encodes-append (f c) (flat_map f cs))

pub mapped_law : (t from to : Text) (es : Entries) → es ≡ entries_from [] (chars from) (chars to) → flat_map (in_place es) (chars t) ≡ text_mapped t from to
mapped_law t from to es e = ap (λ z. flat_map (in_place z) (chars t)) e ∙ placed (entries_from [] (chars from) (chars to)) (mapped_char (chars from) (chars to)) (found [] (chars from) (chars to)) (chars t)

-- ---- the loop

drop-next : (to : List ℕ) (i : ℕ) → other_chars (drop i to) ≡ drop (suc i) to
drop-next [] zero = refl
drop-next [] (suc i) = refl
drop-next (t ∷ ts) zero = refl
drop-next (t ∷ ts) (suc i) = drop-next ts i

pub noted : (es next all : Entries) (from to : List ℕ) (i c d : ℕ) (o : Option ℕ) → i < length from → c ≡ get_or from i d → o ≡ first_or_none (drop i to) → next ≡ with_entry es c o
    → entries_from es (drop i from) (drop i to) ≡ all → entries_from next (drop (i + 1) from) (drop (i + 1) to) ≡ all
noted es next all from to i c d o l at p n e =
    let one : i + 1 ≡ suc i = omega arith in
    ap (λ z. entries_from z (drop (i + 1) from) (drop (i + 1) to)) (n ∙ ap (with_entry es c) p)
    ∙ ap (λ z. entries_from (with_entry es c (first_or_none (drop i to))) (drop (i + 1) from) z) (ap (λ k. drop k to) one ∙ sym (drop-next to i))
    ∙ ap (λ x. entries_from (with_entry es x (first_or_none (drop i to))) (drop (i + 1) from) (other_chars (drop i to))) at
    ∙ sym (at_drop_more (λ z. entries_from es z (drop i to)) from i d l)
    ∙ e
