-- Line ends, and the mark at the start.
use Rattle.std.proofs.Common.{refl, ◌||◌, true≢false, ◌≡◌, ℕ, suc, ◌+◌, ◌<◌, ◌≤◌, Bool, true, false, cond, nat_eq, List, [], ◌∷◌, ◌++◌, length, drop, get_or, Option, Some, None, is_some, sym, ap, ◌∙◌, arith, length-drop, append-nil}
use Rattle.std.proofs.lemmas.Bool.{eqb-true}
use Rattle.std.proofs.lemmas.List.{at_drop_more, at_drop_all}
use Rattle.std.specs.List.{list_any}
use Rattle.doc_shred.specs.Rules.{begins}
use Rattle.doc_shred.specs.Parsers.{strip}
use Rattle.doc_shred.specs.Views.{Lent}
use Rattle.doc_shred.specs.Document.{without_mark, lines_from, lines_joined, text_of}
use Rattle.doc_shred.specs.Standing.{LineAdded}
use Rattle.doc_shred.proofs.Exact.{word_exact}
use Rattle.doc_shred.proofs.Runs.{begins_by}

abbrev mark : List ℕ
mark = 0xEF ∷ 0xBB ∷ 0xBF ∷ []

pub marked : (r : Option Lent) (bytes rest : List ℕ) → Some (tt {0}, rest) ≡ strip mark bytes → rest ≡ without_mark bytes
marked r bytes rest e =
    let spelled : bytes ≡ mark ++ rest = (word_exact mark).sound bytes (tt {0}, rest) (sym e) in
    sym (ap without_mark spelled)

pub unmarked : (bytes : List ℕ) → None ≡ strip mark bytes → bytes ≡ without_mark bytes
unmarked bytes e = ap (λ b. cond b (drop 3 bytes) bytes) (ap is_some e ∙ begins_by mark bytes)

-- no longer than the bytes
joined_shorter : (after : Bool) (bytes : List ℕ) → length (lines_from after bytes) ≤ length bytes
joined_shorter after [] = omega arith
joined_shorter after (c ∷ cs) = by (nat_eq c 13) (nat_eq c 10) after (joined_shorter true cs) (joined_shorter false cs)
  where
    by : (a b d : Bool) → length (lines_from true cs) ≤ length cs → length (lines_from false cs) ≤ length cs
        → length (cond a (10 ∷ lines_from true cs) (cond b (cond d (lines_from false cs) (10 ∷ lines_from false cs)) (c ∷ lines_from false cs))) ≤ suc (length cs)
    by true b d h k = omega arith
    by false true true h k = omega arith
    by false true false h k = omega arith
    by false false d h k = omega arith

unmarked_shorter : (bytes : List ℕ) → length (without_mark bytes) ≤ length bytes
unmarked_shorter bytes = by (begins mark bytes)
  where
    by : (b : Bool) → length (cond b (drop 3 bytes) bytes) ≤ length bytes
    by true = omega (arith, length-drop 3 bytes)
    by false = omega arith

pub text_shorter : (bytes : List ℕ) → length (text_of bytes) ≤ length bytes
text_shorter bytes = omega (arith, joined_shorter false (without_mark bytes), unmarked_shorter bytes)

-- ---- the loop

abbrev pub Joins : List ℕ → Bool → List ℕ → ℕ → Type 0
Joins out after bytes i = out ++ lines_from after (drop i bytes) ≡ lines_joined bytes

pub joins_on : (out new : List ℕ) (after now : Bool) (bytes : List ℕ) (i byte : ℕ) → i < length bytes → byte ≡ get_or bytes i byte → LineAdded out new after now byte → Joins out after bytes i → Joins new now bytes (i + 1)
joins_on out new after now bytes i byte l e a j =
    a (drop (i + 1) bytes) ∙ ap (λ z. out ++ lines_from after (z ∷ drop (i + 1) bytes)) e
    ∙ ap (λ z. out ++ z) (sym (at_drop_more (lines_from after) bytes i byte l)) ∙ j

pub joins_all : (out : List ℕ) (after : Bool) (bytes : List ℕ) (i : ℕ) → length bytes ≤ i → Joins out after bytes i → out ≡ lines_joined bytes
joins_all out after bytes i l j = sym (append-nil out) ∙ ap (λ z. out ++ z) (sym (at_drop_all (lines_from after) bytes i l)) ∙ j

-- bytes without a carriage return stay as they are
pub no_returns : (bytes : List ℕ) → list_any (λ y. nat_eq y 13) bytes ≡ false → bytes ≡ lines_joined bytes
no_returns [] e = refl
no_returns (c ∷ cs) e = by (nat_eq c 13) (nat_eq c 10) (eqb-true c 10) e (no_returns cs)
  where
    by : (a b : Bool) → (b ≡ true → c ≡ 10) → a || list_any (λ y. nat_eq y 13) cs ≡ false
        → (list_any (λ y. nat_eq y 13) cs ≡ false → cs ≡ lines_from false cs)
        → c ∷ cs ≡ cond a (10 ∷ lines_from true cs) (cond b (10 ∷ lines_from false cs) (c ∷ lines_from false cs))
    by true b h e next = absurd (true≢false e)
    by false true h e next = ap (λ z. z ∷ cs) (h refl) ∙ ap (λ z. 10 ∷ z) (next e)
    by false false h e next = ap (λ z. c ∷ z) (next e)
