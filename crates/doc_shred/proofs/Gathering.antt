-- Parts that a loop adds to one text.
use Rattle.std.proofs.Common.{◌≡◌, ℕ, suc, ◌+◌, ◌-◌, ◌<◌, ◌≤◌, true, false, cond, List, [], ◌∷◌, ◌++◌, Option, Some, None, option_and_then, refl, sym, ap, ◌∙◌, arith, append_assoc, append-nil}
use Rattle.doc_shred.specs.Parsers.{Parser, strip, fronted}
use Rattle.doc_shred.specs.Markup.{joined}
use Rattle.doc_shred.specs.Reading as r
use Rattle.doc_shred.proofs.Exact.{mapped}

-- the text is some parts, and reading on after them gives what reading from the start gives
abbrev pub Gathers : (List (List ℕ) → ℕ → Parser (List ℕ)) → List ℕ → ℕ → List ℕ → ℕ → List ℕ → Type 0
Gathers reads text turns rest all first = (before : List (List ℕ)) × (joined before ≡ text) × (reads before turns rest ≡ reads [] all first)

pub joined-push : (before : List (List ℕ)) (v : List ℕ) → joined (before ++ v ∷ []) ≡ joined before ++ v
joined-push [] v = append-nil v
joined-push (p ∷ ps) v = ap (λ z. p ++ z) (joined-push ps v) ∙ sym (append_assoc p (joined ps) v)

-- a part that was added
pub added : (old new rest : List ℕ) (read : Option (List ℕ × List ℕ)) → fronted old read ≡ Some (new, rest) → (v : List ℕ) × (read ≡ Some (v, rest)) × (new ≡ old ++ v)
added old new rest read e =
    let m = mapped (λ (x : List ℕ × List ℕ). (old ++ x.0, x.1)) read (new, rest) e in
    (m.0.0, m.1 ∙ ap (λ z. Some (m.0.0, z)) (ap (λ (z : List ℕ × List ℕ). z.1) m.2), sym (ap (λ (z : List ℕ × List ℕ). z.0) m.2))

pub not_added : (old : List ℕ) (read : Option (List ℕ × List ℕ)) → fronted old read ≡ None → read ≡ None
not_added old None e = refl
not_added old (Some x) e = cc

-- ---- values

pub value_turn : (quote : ℕ) (before : List (List ℕ)) (n : ℕ) (from rest v : List ℕ) → r.goes_on quote from ≡ true → r.value_part quote from ≡ Some (v, rest) → r.value_from quote before (suc n) from ≡ r.value_from quote (before ++ v ∷ []) n rest
unfolding r.value_from
value_turn quote before n from rest v e p =
    ap (λ b. cond b (option_and_then (λ (x : List ℕ × List ℕ). r.value_from quote (before ++ x.0 ∷ []) n x.1) (r.value_part quote from)) (option_and_then (λ (x : Unit {0} × List ℕ). Some (joined before, x.1)) (strip (quote ∷ []) from))) e
    ∙ ap (option_and_then (λ (x : List ℕ × List ℕ). r.value_from quote (before ++ x.0 ∷ []) n x.1)) p

value_failed : (quote : ℕ) (before : List (List ℕ)) (n : ℕ) (from : List ℕ) → r.goes_on quote from ≡ true → r.value_part quote from ≡ None → r.value_from quote before (suc n) from ≡ None
unfolding r.value_from
value_failed quote before n from e p =
    ap (λ b. cond b (option_and_then (λ (x : List ℕ × List ℕ). r.value_from quote (before ++ x.0 ∷ []) n x.1) (r.value_part quote from)) (option_and_then (λ (x : Unit {0} × List ℕ). Some (joined before, x.1)) (strip (quote ∷ []) from))) e
    ∙ ap (option_and_then (λ (x : List ℕ × List ℕ). r.value_from quote (before ++ x.0 ∷ []) n x.1)) p

pub value_closed : (quote : ℕ) (before : List (List ℕ)) (n : ℕ) (from : List ℕ) (o : Option (Unit {0} × List ℕ)) → r.goes_on quote from ≡ false → strip (quote ∷ []) from ≡ o
    → r.value_from quote before (suc n) from ≡ option_and_then (λ (x : Unit {0} × List ℕ). Some (joined before, x.1)) o
unfolding r.value_from
value_closed quote before n from o e p =
    ap (λ b. cond b (option_and_then (λ (x : List ℕ × List ℕ). r.value_from quote (before ++ x.0 ∷ []) n x.1) (r.value_part quote from)) (option_and_then (λ (x : Unit {0} × List ℕ). Some (joined before, x.1)) (strip (quote ∷ []) from))) e
    ∙ ap (option_and_then (λ (x : Unit {0} × List ℕ). Some (joined before, x.1))) p

module _ (quote : ℕ) (text : List ℕ) (m i : ℕ) (from : List ℕ) (all : ℕ) (first : List ℕ) (turns : i < m) (g : Gathers (r.value_from quote) text (m - i) from all first) where
  left : m - i ≡ suc (m - (i + 1))
  left = omega arith

  pub value_goes_on : (new rest : List ℕ) → r.goes_on quote from ≡ true → fronted text (r.value_part quote from) ≡ Some (new, rest) → Gathers (r.value_from quote) new (m - (i + 1)) rest all first
  value_goes_on new rest e p =
      let a = added text new rest (r.value_part quote from) p in (
        g.0 ++ a.0 ∷ [],
        joined-push g.0 a.0 ∙ ap (λ z. z ++ a.0) g.1 ∙ sym a.2,
        sym (value_turn quote g.0 (m - (i + 1)) from rest a.0 e a.1) ∙ ap (λ z. r.value_from quote g.0 z from) (sym left) ∙ g.2,
      )

  pub value_refused : r.goes_on quote from ≡ true → fronted text (r.value_part quote from) ≡ None → r.value_from quote [] all first ≡ None
  value_refused e p = sym g.2 ∙ ap (λ z. r.value_from quote g.0 z from) left ∙ value_failed quote g.0 (m - (i + 1)) from e (not_added text (r.value_part quote from) p)

  pub value_ends : (rest : List ℕ) → r.goes_on quote from ≡ false → strip (quote ∷ []) from ≡ Some (tt {0}, rest) → r.value_from quote [] all first ≡ Some (text, rest)
  value_ends rest e p = sym g.2 ∙ ap (λ z. r.value_from quote g.0 z from) left ∙ value_closed quote g.0 (m - (i + 1)) from (Some (tt {0}, rest)) e p ∙ ap (λ z. Some (z, rest)) g.1

  pub value_open : r.goes_on quote from ≡ false → strip (quote ∷ []) from ≡ None → r.value_from quote [] all first ≡ None
  value_open e p = sym g.2 ∙ ap (λ z. r.value_from quote g.0 z from) left ∙ value_closed quote g.0 (m - (i + 1)) from None e p

pub value_no_turn : (quote : ℕ) (text : List ℕ) (m i : ℕ) (from : List ℕ) (all : ℕ) (first : List ℕ) → m ≤ i → Gathers (r.value_from quote) text (m - i) from all first → r.value_from quote [] all first ≡ None
unfolding r.value_from
value_no_turn quote text m i from all first l g =
    let none : m - i ≡ 0 = omega arith in
    sym g.2 ∙ ap (λ z. r.value_from quote g.0 z from) none

-- ---- texts

pub text_turn : (before : List (List ℕ)) (n : ℕ) (from rest v : List ℕ) → r.has_text from ≡ true → r.text_part from ≡ Some (v, rest) → r.text_from before (suc n) from ≡ r.text_from (before ++ v ∷ []) n rest
unfolding r.text_from
text_turn before n from rest v e p =
    ap (λ b. cond b (option_and_then (λ (x : List ℕ × List ℕ). r.text_from (before ++ x.0 ∷ []) n x.1) (r.text_part from)) (Some (joined before, from))) e
    ∙ ap (option_and_then (λ (x : List ℕ × List ℕ). r.text_from (before ++ x.0 ∷ []) n x.1)) p

text_failed : (before : List (List ℕ)) (n : ℕ) (from : List ℕ) → r.has_text from ≡ true → r.text_part from ≡ None → r.text_from before (suc n) from ≡ None
unfolding r.text_from
text_failed before n from e p =
    ap (λ b. cond b (option_and_then (λ (x : List ℕ × List ℕ). r.text_from (before ++ x.0 ∷ []) n x.1) (r.text_part from)) (Some (joined before, from))) e
    ∙ ap (option_and_then (λ (x : List ℕ × List ℕ). r.text_from (before ++ x.0 ∷ []) n x.1)) p

pub text_done : (before : List (List ℕ)) (n : ℕ) (from : List ℕ) → r.has_text from ≡ false → r.text_from before (suc n) from ≡ Some (joined before, from)
unfolding r.text_from
text_done before n from e = ap (λ b. cond b (option_and_then (λ (x : List ℕ × List ℕ). r.text_from (before ++ x.0 ∷ []) n x.1) (r.text_part from)) (Some (joined before, from))) e

module _ (text : List ℕ) (m i : ℕ) (from : List ℕ) (all : ℕ) (first : List ℕ) (turns : i < m) (g : Gathers r.text_from text (m - i) from all first) where
  text_left : m - i ≡ suc (m - (i + 1))
  text_left = omega arith

  pub text_goes_on : (new rest : List ℕ) → r.has_text from ≡ true → fronted text (r.text_part from) ≡ Some (new, rest) → Gathers r.text_from new (m - (i + 1)) rest all first
  text_goes_on new rest e p =
      let a = added text new rest (r.text_part from) p in (
        g.0 ++ a.0 ∷ [],
        joined-push g.0 a.0 ∙ ap (λ z. z ++ a.0) g.1 ∙ sym a.2,
        sym (text_turn g.0 (m - (i + 1)) from rest a.0 e a.1) ∙ ap (λ z. r.text_from g.0 z from) (sym text_left) ∙ g.2,
      )

  pub text_refused : r.has_text from ≡ true → fronted text (r.text_part from) ≡ None → r.text_from [] all first ≡ None
  text_refused e p = sym g.2 ∙ ap (λ z. r.text_from g.0 z from) text_left ∙ text_failed g.0 (m - (i + 1)) from e (not_added text (r.text_part from) p)

  pub text_ends : r.has_text from ≡ false → r.text_from [] all first ≡ Some (text, from)
  text_ends e = sym g.2 ∙ ap (λ z. r.text_from g.0 z from) text_left ∙ text_done g.0 (m - (i + 1)) from e ∙ ap (λ z. Some (z, from)) g.1

pub text_no_turn : (text : List ℕ) (m i : ℕ) (from : List ℕ) (all : ℕ) (first : List ℕ) → m ≤ i → Gathers r.text_from text (m - i) from all first → r.text_from [] all first ≡ None
unfolding r.text_from
text_no_turn text m i from all first l g =
    let none : m - i ≡ 0 = omega arith in
    sym g.2 ∙ ap (λ z. r.text_from g.0 z from) none
