-- Functions of texts, on arguments of one atomic value each.
use Rattle.std.proofs.Common.{◌≡◌, true, List, [], ◌∷◌, ℤ, pos, refl, sym, ap, ◌∙◌, Some, None, Result, Ok, Err}
use Rattle.std.specs.Result.{ForOk}
use Rattle.std.proofs.lemmas.Bool.{false≢true}
use Rattle.xq_base.specs.declared.code.Code.{Code}
use Rattle.xq_base.specs.declared.fun.Fun.{Fun}
use Rattle.xq_base.specs.declared.fun.Fun.TheVariants as f
use Rattle.xq_base.specs.declared.item.Atom.{Atom as HeldAtom}
use Rattle.xq_base.specs.Answers.{Answer, Value, Fault, with_value, then_rule, both_of}
use Rattle.xq_base.specs.Texts.{Text, trimmed}
use Rattle.xq_base.specs.Words.{space_normalized, char_count, text_part, text_mapped}
use Rattle.xq_base.specs.Atoms.{Atom, IntAtom, TextAtom}
use Rattle.xq_base.specs.Arithmetic.{number_of}
use Rattle.xq_base.specs.TextRules.{string_of, or_empty, text_list, on_text, on_texts, one_text, order_of, compare_texts, substring_from, substring_of, translated}
use Rattle.doc_table.specs.Items.{TextItem}
use Rattle.doc_table.specs.Values.{Items, items_of, item_of_atom, atomized}
use Rattle.doc_table.specs.NodeRules.{Docs}
use Rattle.doc_table.specs.Content.{as_qname, as_target}
use Rattle.doc_table.specs.Functions.{fun_answer}
use Rattle.xq_funs.specs.Answering.{answer_of, atom_in}
use Rattle.xq_funs.specs.Calls.{singles}
use Rattle.xq_funs.specs.TextCalls.{is_of_text, of_text, is_of_texts, of_texts}
use Rattle.xq_funs.proofs.FunLaws.{back}

-- ---- answers of two that are judged each by itself

value-same : {A : Type 0} (a b : A) → Value a ≡ Value b → a ≡ b
value-same a b e = cc

value-fault : {A : Type 0} (a : A) (d : Code) → Value a ≡ Fault d → ⊥
value-fault a d e = cc

pub both_parts : {A B : Type 0} (r : Result A Code) (s : Result B Code) (p : A) (q : B) → Value (p, q) ≡ both_of (answer_of r) (answer_of s) → (r ≡ Ok p) × (s ≡ Ok q)
both_parts (Ok x) (Ok y) p q e = let h = value-same (p, q) (x, y) e in (ap (λ z. Ok z.0) (sym h), ap (λ z. Ok z.1) (sym h))
both_parts (Ok x) (Err d) p q e = absurd (value-fault (p, q) d e)
both_parts (Err c) (Ok y) p q e = absurd (value-fault (p, q) c e)
both_parts (Err c) (Err d) p q e = absurd (value-fault (p, q) _ e)

pub first_given : {A B : Type 0} (P : A → Type 0) (r : Result A Code) (s : Result B Code) (p : A) (q : B) → Value (p, q) ≡ both_of (answer_of r) (answer_of s) → ForOk r P → P p
first_given P r s p q e h = h p ((both_parts r s p q e).0)

pub second_given : {A B : Type 0} (P : B → Type 0) (r : Result A Code) (s : Result B Code) (p : A) (q : B) → Value (p, q) ≡ both_of (answer_of r) (answer_of s) → ForOk s P → P q
second_given P r s p q e h = h q ((both_parts r s p q e).1)

module _ {A B C D : Type 0} (f : A → C) (g : B → D) where
  pub both_with : (x : Answer A) (y : Answer B) → both_of (with_value f x) (with_value g y) ≡ with_value (λ p. (f p.0, g p.1)) (both_of x y)
  both_with (Value a) (Value b) = refl
  both_with (Value a) (Fault e) = refl
  both_with (Fault d) (Value b) = refl
  both_with (Fault d) (Fault e) = refl

  pub pair_is : (x : Answer A) (y : Answer B) (z : Answer (A × B)) (v : Answer C) (w : Answer D) → z ≡ both_of x y → with_value f x ≡ v → with_value g y ≡ w → both_of v w ≡ with_value (λ p. (f p.0, g p.1)) z
  pair_is x y z v w e a b = ap (λ k. both_of k w) (sym a) ∙ ap (both_of (with_value f x)) (sym b) ∙ both_with x y ∙ ap (with_value (λ p. (f p.0, g p.1))) (sym e)

pub with_itself : {A : Type 0} (x : Answer A) → with_value (λ z. z) x ≡ x
with_itself (Value a) = refl
with_itself (Fault d) = refl

-- ---- one text

abbrev pub text_rule : Fun → Atom → Answer Items
text_rule fun a = then_rule (string_of a) (λ t. with_value (λ b. item_of_atom b ∷ []) (of_text fun t))

text-of : (g : Text → List Atom) (a : Atom) → with_value items_of (on_text g (atomized (item_of_atom a) ∷ [])) ≡ then_rule (string_of a) (λ t. Value (items_of (g t)))
text-of g a = ap (λ z. with_value items_of (on_text g (z ∷ []))) (back a) ∙ by (string_of a)
  where
    by : (x : Answer Text) → with_value items_of (with_value g (with_value or_empty (with_value Some x))) ≡ then_rule x (λ t. Value (items_of (g t)))
    by (Value t) = refl
    by (Fault d) = refl

name-of : (g : Text → Answer Text) (a : Atom) → with_value (λ t. TextItem t ∷ []) (then_rule (one_text (atomized (item_of_atom a) ∷ [])) g) ≡ then_rule (string_of a) (λ t. with_value (λ b. item_of_atom b ∷ []) (with_value TextAtom (g t)))
name-of g a = ap (λ z. with_value (λ t. TextItem t ∷ []) (then_rule (one_text (z ∷ [])) g)) (back a) ∙ by (string_of a)
  where
    given : (y : Answer Text) → with_value (λ t. TextItem t ∷ []) y ≡ with_value (λ b. item_of_atom b ∷ []) (with_value TextAtom y)
    given (Value t) = refl
    given (Fault d) = refl

    by : (x : Answer Text) → with_value (λ t. TextItem t ∷ []) (then_rule x g) ≡ then_rule x (λ t. with_value (λ b. item_of_atom b ∷ []) (with_value TextAtom (g t)))
    by (Value t) = given (g t)
    by (Fault d) = refl

pub one_text_call : (docs : Docs) (fun : Fun) (texts : List Text) (a : HeldAtom) → is_of_text fun ≡ true → fun_answer docs fun (singles texts (a ∷ [])) ≡ text_rule fun (atom_in texts a)
one_text_call docs f.StringLength texts a h = text-of (λ t. IntAtom (pos (char_count t)) ∷ []) (atom_in texts a)
one_text_call docs f.NormalizeSpace texts a h = text-of (λ t. text_list (space_normalized t)) (atom_in texts a)
one_text_call docs f.QName texts a h = name-of (λ t. as_qname (trimmed t)) (atom_in texts a)
one_text_call docs f.PiTarget texts a h = name-of (λ t. as_target (trimmed t)) (atom_in texts a)
one_text_call docs _ texts a h = absurd (false≢true h)

pub text_done : (fun : Fun) (a : Atom) (t u : Text) → Value t ≡ string_of a → t ≡ u → with_value (λ b. item_of_atom b ∷ []) (of_text fun u) ≡ text_rule fun a
text_done fun a t u e h = ap (λ z. with_value (λ b. item_of_atom b ∷ []) (of_text fun z)) (sym h) ∙ ap (λ w. then_rule w (λ t. with_value (λ b. item_of_atom b ∷ []) (of_text fun t))) e

pub text_fails : (fun : Fun) (a : Atom) (d : Code) → Fault d ≡ string_of a → text_rule fun a ≡ Fault d
text_fails fun a d e = ap (λ w. then_rule w (λ t. with_value (λ b. item_of_atom b ∷ []) (of_text fun t))) (sym e)

-- ---- two

abbrev pub pair_rule : {A B : Type 0} → (A → B → Atom) → Answer (A × B) → Answer Items
pair_rule g x = with_value (λ p. item_of_atom (g p.0 p.1) ∷ []) x

texts-of : (g : Text → Text → Atom) (a b : Atom) → with_value items_of (on_texts (λ t u. g t u ∷ []) (atomized (item_of_atom a) ∷ []) (atomized (item_of_atom b) ∷ [])) ≡ pair_rule g (both_of (string_of a) (string_of b))
texts-of g a b = ap (λ z. with_value items_of (on_texts (λ t u. g t u ∷ []) (z ∷ []) (atomized (item_of_atom b) ∷ []))) (back a) ∙ ap (λ z. with_value items_of (on_texts (λ t u. g t u ∷ []) (a ∷ []) (z ∷ []))) (back b) ∙ by (string_of a) (string_of b)
  where
    by : (x y : Answer Text) → with_value items_of (with_value (λ p. g p.0 p.1 ∷ []) (both_of (with_value or_empty (with_value Some x)) (with_value or_empty (with_value Some y)))) ≡ pair_rule g (both_of x y)
    by (Value t) (Value u) = refl
    by (Value t) (Fault e) = refl
    by (Fault d) (Value u) = refl
    by (Fault d) (Fault e) = refl

compared-of : (a b : Atom) → with_value items_of (compare_texts (atomized (item_of_atom a) ∷ []) (atomized (item_of_atom b) ∷ [])) ≡ pair_rule (of_texts f.Compare) (both_of (string_of a) (string_of b))
compared-of a b = ap (λ z. with_value items_of (compare_texts (z ∷ []) (atomized (item_of_atom b) ∷ []))) (back a) ∙ ap (λ z. with_value items_of (compare_texts (a ∷ []) (z ∷ []))) (back b) ∙ by (string_of a) (string_of b)
  where
    by : (x y : Answer Text) → with_value items_of (with_value order_of (both_of (with_value Some x) (with_value Some y))) ≡ pair_rule (of_texts f.Compare) (both_of x y)
    by (Value t) (Value u) = refl
    by (Value t) (Fault e) = refl
    by (Fault d) (Value u) = refl
    by (Fault d) (Fault e) = refl

pub two_texts_call : (docs : Docs) (fun : Fun) (texts : List Text) (a b : HeldAtom) → is_of_texts fun ≡ true
    → fun_answer docs fun (singles texts (a ∷ b ∷ [])) ≡ pair_rule (of_texts fun) (both_of (string_of (atom_in texts a)) (string_of (atom_in texts b)))
two_texts_call docs f.Contains texts a b h = texts-of (of_texts f.Contains) (atom_in texts a) (atom_in texts b)
two_texts_call docs f.StartsWith texts a b h = texts-of (of_texts f.StartsWith) (atom_in texts a) (atom_in texts b)
two_texts_call docs f.EndsWith texts a b h = texts-of (of_texts f.EndsWith) (atom_in texts a) (atom_in texts b)
two_texts_call docs f.SubstringBefore texts a b h = texts-of (of_texts f.SubstringBefore) (atom_in texts a) (atom_in texts b)
two_texts_call docs f.SubstringAfter texts a b h = texts-of (of_texts f.SubstringAfter) (atom_in texts a) (atom_in texts b)
two_texts_call docs f.Compare texts a b h = compared-of (atom_in texts a) (atom_in texts b)
two_texts_call docs _ texts a b h = absurd (false≢true h)

abbrev pub from_place : Text → ℤ → Atom
from_place t start = TextAtom (text_part t start None)

pub substring_from_call : (docs : Docs) (texts : List Text) (a b : HeldAtom) → fun_answer docs f.Substring (singles texts (a ∷ b ∷ [])) ≡ pair_rule from_place (both_of (string_of (atom_in texts a)) (number_of (atom_in texts b)))
substring_from_call docs texts a b =
    ap (λ z. with_value items_of (substring_from (z ∷ []) (atomized (item_of_atom (atom_in texts b)) ∷ []))) (back (atom_in texts a))
    ∙ ap (λ z. with_value items_of (substring_from (atom_in texts a ∷ []) (z ∷ []))) (back (atom_in texts b))
    ∙ by (string_of (atom_in texts a)) (number_of (atom_in texts b))
  where
    by : (x : Answer Text) (y : Answer ℤ) → with_value items_of (with_value (λ p. text_list (text_part p.0 p.1 None)) (both_of (with_value or_empty (with_value Some x)) y)) ≡ pair_rule from_place (both_of x y)
    by (Value t) (Value u) = refl
    by (Value t) (Fault e) = refl
    by (Fault d) (Value u) = refl
    by (Fault d) (Fault e) = refl

-- ---- three

abbrev pub between_places : Text × ℤ → ℤ → Atom
between_places p n = TextAtom (text_part p.0 p.1 (Some n))

pub substring_call : (docs : Docs) (texts : List Text) (a b d : HeldAtom) → fun_answer docs f.Substring (singles texts (a ∷ b ∷ d ∷ []))
    ≡ pair_rule between_places (both_of (both_of (string_of (atom_in texts a)) (number_of (atom_in texts b))) (number_of (atom_in texts d)))
substring_call docs texts a b d =
    ap (λ z. with_value items_of (substring_of (z ∷ []) (atomized (item_of_atom (atom_in texts b)) ∷ []) (atomized (item_of_atom (atom_in texts d)) ∷ []))) (back (atom_in texts a))
    ∙ ap (λ z. with_value items_of (substring_of (atom_in texts a ∷ []) (z ∷ []) (atomized (item_of_atom (atom_in texts d)) ∷ []))) (back (atom_in texts b))
    ∙ ap (λ z. with_value items_of (substring_of (atom_in texts a ∷ []) (atom_in texts b ∷ []) (z ∷ []))) (back (atom_in texts d))
    ∙ by (string_of (atom_in texts a)) (number_of (atom_in texts b)) (number_of (atom_in texts d))
  where
    by : (x : Answer Text) (y z : Answer ℤ) → with_value items_of (with_value (λ p. text_list (text_part p.0.0 p.0.1 (Some p.1))) (both_of (both_of (with_value or_empty (with_value Some x)) y) z)) ≡ pair_rule between_places (both_of (both_of x y) z)
    by (Value t) (Value u) (Value v) = refl
    by (Value t) (Value u) (Fault e) = refl
    by (Value t) (Fault e) (Value v) = refl
    by (Value t) (Fault e) (Fault c) = refl
    by (Fault d) (Value u) (Value v) = refl
    by (Fault d) (Value u) (Fault c) = refl
    by (Fault d) (Fault e) (Value v) = refl
    by (Fault d) (Fault e) (Fault c) = refl

abbrev pub other_chars_for : Text × Text → Text → Atom
other_chars_for p to = TextAtom (text_mapped p.0 p.1 to)

pub translate_call : (docs : Docs) (texts : List Text) (a b d : HeldAtom) → fun_answer docs f.Translate (singles texts (a ∷ b ∷ d ∷ []))
    ≡ pair_rule other_chars_for (both_of (both_of (string_of (atom_in texts a)) (string_of (atom_in texts b))) (string_of (atom_in texts d)))
translate_call docs texts a b d =
    ap (λ z. with_value items_of (translated (z ∷ []) (atomized (item_of_atom (atom_in texts b)) ∷ []) (atomized (item_of_atom (atom_in texts d)) ∷ []))) (back (atom_in texts a))
    ∙ ap (λ z. with_value items_of (translated (atom_in texts a ∷ []) (z ∷ []) (atomized (item_of_atom (atom_in texts d)) ∷ []))) (back (atom_in texts b))
    ∙ ap (λ z. with_value items_of (translated (atom_in texts a ∷ []) (atom_in texts b ∷ []) (z ∷ []))) (back (atom_in texts d))
    ∙ by (string_of (atom_in texts a)) (string_of (atom_in texts b)) (string_of (atom_in texts d))
  where
    by : (x y z : Answer Text) → with_value items_of (with_value (λ p. text_list (text_mapped p.0.0 p.0.1 p.1)) (both_of (both_of (with_value or_empty (with_value Some x)) y) z)) ≡ pair_rule other_chars_for (both_of (both_of x y) z)
    by (Value t) (Value u) (Value v) = refl
    by (Value t) (Value u) (Fault e) = refl
    by (Value t) (Fault e) (Value v) = refl
    by (Value t) (Fault e) (Fault c) = refl
    by (Fault d) (Value u) (Value v) = refl
    by (Fault d) (Value u) (Fault c) = refl
    by (Fault d) (Fault e) (Value v) = refl
    by (Fault d) (Fault e) (Fault c) = refl

-- ---- what three that are judged each by itself give

module _ {A B C : Type 0} where
  pub first_of_three : (P : A → Type 0) (r : Result A Code) (s : Result B Code) (u : Result (A × B) Code) (t : Result C Code) (p : A) (q : B) (o : C) → answer_of u ≡ both_of (answer_of r) (answer_of s)
      → Value ((p, q), o) ≡ both_of (answer_of u) (answer_of t) → ForOk r P → P p
  first_of_three P r s u t p q o e d h = first_given P r s p q (ap answer_of (sym ((both_parts u t (p, q) o d).0)) ∙ e) h

  pub second_of_three : (P : B → Type 0) (r : Result A Code) (s : Result B Code) (u : Result (A × B) Code) (t : Result C Code) (p : A) (q : B) (o : C) → answer_of u ≡ both_of (answer_of r) (answer_of s)
      → Value ((p, q), o) ≡ both_of (answer_of u) (answer_of t) → ForOk s P → P q
  second_of_three P r s u t p q o e d h = second_given P r s p q (ap answer_of (sym ((both_parts u t (p, q) o d).0)) ∙ e) h
