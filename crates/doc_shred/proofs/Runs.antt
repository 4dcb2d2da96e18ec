-- How the code finds runs and words.
use Rattle.std.proofs.Common.{◌≡◌, ℕ, suc, ◌+◌, ◌<◌, Bool, true, false, cond, ◌&&◌, ◌||◌, nat_eq, List, [], ◌∷◌, ◌++◌, length, take, drop, get_or, refl, sym, ap, ◌∙◌, ◌≤◌, ◌-◌, length-drop, arith, Option, Some, None, MatchOption, is_some, option_map, append_assoc, append-nil}
use Rattle.std.proofs.lemmas.List.{take_all, drop_all, take_more, at_drop_more}
use Rattle.std.specs.List.{prefix_len}
use Rattle.std.specs.Cmp.Lexicographic.{pointwise}
use Rattle.doc_shred.specs.Rules.{begins, holds}
use Rattle.doc_shred.specs.Parsers.{run, after_run, strip, before_first, fronted}
use Rattle.doc_shred.specs.Views.{Lent, silent}

pub run_taken : (p : ℕ → Bool) (bytes : List ℕ) → take (prefix_len p bytes) bytes ≡ run p bytes
run_taken p [] = refl
run_taken p (c ∷ cs) = elim (p c) as (λ b. take (cond b (1 + prefix_len p cs) 0) (c ∷ cs) ≡ cond b (c ∷ run p cs) []) [
  | true ↦ let one : 1 + prefix_len p cs ≡ suc (prefix_len p cs) = omega arith in rw one (ap (λ ds. c ∷ ds) (run_taken p cs))
  | false ↦ refl
]

pub run_dropped : (p : ℕ → Bool) (bytes : List ℕ) → drop (prefix_len p bytes) bytes ≡ after_run p bytes
run_dropped p [] = refl
run_dropped p (c ∷ cs) = elim (p c) as (λ b. drop (cond b (1 + prefix_len p cs) 0) (c ∷ cs) ≡ cond b (after_run p cs) (c ∷ cs)) [
  | true ↦ let one : 1 + prefix_len p cs ≡ suc (prefix_len p cs) = omega arith in rw one (run_dropped p cs)
  | false ↦ refl
]

strip_by : (w from : List ℕ) → (b : Bool) → pointwise nat_eq (take (length w) from) w ≡ b → strip w from ≡ cond b (Some (tt, drop (length w) from)) None
strip_by [] from true e = refl
strip_by [] from false e = cc
strip_by (c ∷ cs) [] true e = cc
strip_by (c ∷ cs) [] false e = refl
strip_by (c ∷ cs) (d ∷ ds) b e = by (nat_eq d c) b (strip_by cs ds) e
  where
    by : (t b : Bool) → ((b : Bool) → pointwise nat_eq (take (length cs) ds) cs ≡ b → strip cs ds ≡ cond b (Some (tt, drop (length cs) ds)) None)
        → t && pointwise nat_eq (take (length cs) ds) cs ≡ b → cond t (strip cs ds) None ≡ cond b (Some (tt, drop (length cs) ds)) None
    by true b next e = next b e
    by false true next e = cc
    by false false next e = refl

-- what the standard library's call says is what is left of a word
pub stripped : (r : Option Lent) (w from : List ℕ)
    → MatchOption r (pointwise nat_eq (take (length w) from) w ≡ false) (λ x. (pointwise nat_eq (take (length w) from) w ≡ true) × (x.now ≡ drop (length w) from) × (length x.now + length w ≡ length from))
    → silent r ≡ strip w from
stripped None w from h = sym (strip_by w from false h)
stripped (Some x) w from h = ap (λ z. Some (tt, z)) h.1 ∙ sym (strip_by w from true h.0)

pub begins_by : (w from : List ℕ) → is_some (strip w from) ≡ begins w from
begins_by [] from = refl
begins_by (c ∷ cs) [] = refl
begins_by (c ∷ cs) (d ∷ ds) = by (nat_eq d c) (begins_by cs ds)
  where
    by : (b : Bool) → is_some (strip cs ds) ≡ begins cs ds → is_some (cond b (strip cs ds) None) ≡ cond b (begins cs ds) false
    by true e = e
    by false e = refl

same_side : (r : Option Lent) → is_some r ≡ is_some (silent r)
same_side None = refl
same_side (Some x) = refl

pub begins_stripped : (r : Option Lent) (w from : List ℕ) → silent r ≡ strip w from → is_some r ≡ begins w from
begins_stripped r w from e = same_side r ∙ ap is_some e ∙ begins_by w from

pub fronted-nil : (o : Option (List ℕ × List ℕ)) → fronted [] o ≡ o
fronted-nil None = refl
fronted-nil (Some x) = refl

pub fronted-fronted : (xs ys : List ℕ) (o : Option (List ℕ × List ℕ)) → fronted xs (fronted ys o) ≡ fronted (xs ++ ys) o
fronted-fronted xs ys None = refl
fronted-fronted xs ys (Some x) = ap (λ z. Some (z, x.1)) (sym (append_assoc xs ys x.0))

before_hit : (w from rest : List ℕ) → strip w from ≡ Some (tt, rest) → before_first w from ≡ Some ([], rest)
before_hit w [] rest e = ap (option_map (λ (x : Unit {0} × List ℕ). ([], x.1))) e
before_hit w (c ∷ cs) rest e =
    ap (λ b. cond b (option_map (λ (x : Unit {0} × List ℕ). ([], x.1)) (strip w (c ∷ cs))) (fronted (c ∷ []) (before_first w cs))) (sym (begins_by w (c ∷ cs)) ∙ ap is_some e)
    ∙ ap (option_map (λ (x : Unit {0} × List ℕ). ([], x.1))) e

before_miss : (w : List ℕ) (c : ℕ) (cs : List ℕ) → strip w (c ∷ cs) ≡ None → before_first w (c ∷ cs) ≡ fronted (c ∷ []) (before_first w cs)
before_miss w c cs e = ap (λ b. cond b (option_map (λ (x : Unit {0} × List ℕ). ([], x.1)) (strip w (c ∷ cs))) (fronted (c ∷ []) (before_first w cs))) (sym (begins_by w (c ∷ cs)) ∙ ap is_some e)

-- the search has come to this place
abbrev pub Searched : List ℕ → List ℕ → ℕ → Type 0
Searched w bytes at = fronted (take at bytes) (before_first w (drop at bytes)) ≡ before_first w bytes

pub search_begins : (w bytes : List ℕ) → Searched w bytes 0
search_begins w bytes = fronted-nil (before_first w bytes)

pub search_goes_on : (w bytes : List ℕ) (at : ℕ) (r : Option Lent) → at < length bytes → silent r ≡ strip w (drop at bytes) → r ≡ None → Searched w bytes at → Searched w bytes (at + 1)
search_goes_on w bytes at r l e n s =
    let c : ℕ = get_or bytes at 0 in
    let split : drop at bytes ≡ c ∷ drop (at + 1) bytes = at_drop_more (λ z. z) bytes at 0 l in
    let here : before_first w (drop at bytes) ≡ fronted (c ∷ []) (before_first w (drop (at + 1) bytes)) = ap (before_first w) split ∙ before_miss w c (drop (at + 1) bytes) (ap (strip w) (sym split) ∙ sym e ∙ ap silent n) in
    ap (λ z. fronted z (before_first w (drop (at + 1) bytes))) (take_more bytes at 0 l)
    ∙ sym (fronted-fronted (take at bytes) (c ∷ []) (before_first w (drop (at + 1) bytes)))
    ∙ ap (fronted (take at bytes)) (sym here) ∙ s

pub search_found : (w bytes : List ℕ) (at : ℕ) (rest : List ℕ) → Some (tt {0}, rest) ≡ strip w (drop at bytes) → Searched w bytes at → Some (take at bytes, rest) ≡ before_first w bytes
search_found w bytes at rest e s = ap (λ z. Some (z, rest)) (sym (append-nil (take at bytes))) ∙ ap (fronted (take at bytes)) (sym (before_hit w (drop at bytes) rest (sym e))) ∙ s

pub search_ends : (w bytes : List ℕ) (at : ℕ) → 0 < length w → length bytes ≤ at → Searched w bytes at → None ≡ before_first w bytes
search_ends [] bytes at h l s = absurd (omega arith)
search_ends (c ∷ cs) bytes at h l s = ap (λ z. fronted (take at bytes) (before_first (c ∷ cs) z)) (sym (drop_all at bytes l)) ∙ s

-- ---- whether a word stands somewhere

pub holds_here : (w bytes : List ℕ) (at : ℕ) (b : Bool) → at < length bytes → begins w (drop at bytes) ≡ b → holds w (drop at bytes) ≡ b || holds w (drop (at + 1) bytes)
holds_here w bytes at b l e =
    let split : drop at bytes ≡ get_or bytes at 0 ∷ drop (at + 1) bytes = at_drop_more (λ z. z) bytes at 0 l in
    ap (holds w) split ∙ ap (λ z. z || holds w (drop (at + 1) bytes)) (ap (begins w) (sym split) ∙ e)

pub holds_nowhere : (w bytes : List ℕ) (at : ℕ) → 0 < length w → length bytes ≤ at → holds w (drop at bytes) ≡ false
holds_nowhere [] bytes at h l = absurd (omega arith)
holds_nowhere (c ∷ cs) bytes at h l = ap (holds (c ∷ cs)) (drop_all at bytes l)

-- the rest from a place on, as the code cuts it
pub whole_rest : (bytes : List ℕ) (at : ℕ) → take (length bytes - at) (drop at bytes) ≡ drop at bytes
whole_rest bytes at = take_all (length bytes - at) (drop at bytes) (omega (arith, length-drop at bytes))
