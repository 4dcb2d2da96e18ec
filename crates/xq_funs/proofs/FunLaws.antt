-- Rules of functions, on arguments of one atomic value each.
use Rattle.std.proofs.Common.{◌≡◌, true, List, [], ◌∷◌, ℤ, neg_ℤ, refl, ap, ◌∙◌, Some, Result}
use Rattle.xq_base.specs.declared.code.Code.{Code}
use Rattle.std.proofs.lemmas.Bool.{false≢true}
use Rattle.xq_base.specs.declared.fun.Fun.{Fun}
use Rattle.xq_base.specs.declared.fun.Fun.TheVariants as f
use Rattle.xq_base.specs.declared.item.Atom.{Atom as HeldAtom}
use Rattle.xq_base.specs.Answers.{Answer, Value, Fault, with_value, then_rule, both_of}
use Rattle.xq_base.specs.Texts.{Text}
use Rattle.xq_base.specs.Atoms.{Atom, IntAtom, TextAtom, UntypedAtom, BoolAtom, cast_atom}
use Rattle.xq_base.specs.Arithmetic.{number_of, operand, checked, on_number, on_numbers, integer_list, arithmetic, sum_of, difference_of, product_of, quotient_of, remainder_of}
use Rattle.xq_base.specs.declared.fun.AtomKind.{AtomKind}
use Rattle.xq_base.specs.declared.fun.AtomKind.TheVariants as k
use Rattle.xq_base.specs.declared.fun.CompOp.{CompOp}
use Rattle.xq_base.specs.Comparisons.{value_comparison, value_pair, truth}
use Rattle.xq_base.specs.TextRules.{absolute}
use Rattle.doc_table.specs.Values.{Items, items_of, item_of_atom, atomized, cast_items}
use Rattle.doc_table.specs.NodeRules.{Docs}
use Rattle.doc_table.specs.Functions.{fun_answer, two_atomic, string_answer}
use Rattle.xq_funs.specs.Answering.{answer_of, atom_in}
use Rattle.xq_funs.specs.Calls.{singles, calculated, changed, is_arithmetic, is_sign}

pub back : (a : Atom) → atomized (item_of_atom a) ≡ a
back (IntAtom z) = refl
back (TextAtom t) = refl
back (UntypedAtom t) = refl
back (BoolAtom b) = refl

numbers-of : (g : ℤ → ℤ → Answer ℤ) (a b : Atom) → arithmetic g (atomized (item_of_atom a) ∷ []) (atomized (item_of_atom b) ∷ []) ≡ then_rule (both_of (number_of a) (number_of b)) (λ p. with_value integer_list (g p.0 p.1))
numbers-of g a b = ap (λ z. arithmetic g (z ∷ []) (atomized (item_of_atom b) ∷ [])) (back a) ∙ ap (λ z. arithmetic g (a ∷ []) (z ∷ [])) (back b) ∙ by (number_of a) (number_of b)
  where
    by : (x y : Answer ℤ) → then_rule (both_of (with_value Some x) (with_value Some y)) (on_numbers g) ≡ then_rule (both_of x y) (λ p. with_value integer_list (g p.0 p.1))
    by (Value x) (Value y) = refl
    by (Value x) (Fault e) = refl
    by (Fault d) (Value y) = refl
    by (Fault d) (Fault e) = refl

abbrev pub numbers_rule : Fun → Atom → Atom → Answer Items
numbers_rule fun a b = with_value items_of (then_rule (both_of (number_of a) (number_of b)) (λ p. with_value integer_list (calculated fun p.0 p.1)))

pub two_numbers : (docs : Docs) (fun : Fun) (texts : List Text) (a b : HeldAtom) → is_arithmetic fun ≡ true → fun_answer docs fun (singles texts (a ∷ b ∷ [])) ≡ numbers_rule fun (atom_in texts a) (atom_in texts b)
two_numbers docs f.Add texts a b h = ap (with_value items_of) (numbers-of sum_of (atom_in texts a) (atom_in texts b))
two_numbers docs f.Subtract texts a b h = ap (with_value items_of) (numbers-of difference_of (atom_in texts a) (atom_in texts b))
two_numbers docs f.Multiply texts a b h = ap (with_value items_of) (numbers-of product_of (atom_in texts a) (atom_in texts b))
two_numbers docs f.IntegerDivide texts a b h = ap (with_value items_of) (numbers-of quotient_of (atom_in texts a) (atom_in texts b))
two_numbers docs f.Modulo texts a b h = ap (with_value items_of) (numbers-of remainder_of (atom_in texts a) (atom_in texts b))
two_numbers docs _ texts a b h = absurd (false≢true h)

pub numbers_done : (fun : Fun) (a b : Atom) (y z : ℤ) (r : Result ℤ Code) → Value (y, z) ≡ both_of (number_of a) (number_of b) → answer_of r ≡ calculated fun y z
    → with_value items_of (with_value integer_list (answer_of r)) ≡ numbers_rule fun a b
numbers_done fun a b y z r e d = ap (λ w. with_value items_of (with_value integer_list w)) d ∙ ap (λ w. with_value items_of (then_rule w (λ p. with_value integer_list (calculated fun p.0 p.1)))) e

-- ---- one number

abbrev pub number_rule : Fun → Atom → Answer Items
number_rule fun a = with_value items_of (then_rule (number_of a) (λ z. with_value integer_list (changed fun z)))

number-of : (g : ℤ → Answer ℤ) (a : Atom) → then_rule (operand (atomized (item_of_atom a) ∷ [])) (on_number g) ≡ then_rule (number_of a) (λ z. with_value integer_list (g z))
number-of g a = ap (λ z. then_rule (operand (z ∷ [])) (on_number g)) (back a) ∙ by (number_of a)
  where
    by : (x : Answer ℤ) → then_rule (with_value Some x) (on_number g) ≡ then_rule x (λ z. with_value integer_list (g z))
    by (Value x) = refl
    by (Fault d) = refl

pub one_number : (docs : Docs) (fun : Fun) (texts : List Text) (a : HeldAtom) → is_sign fun ≡ true → fun_answer docs fun (singles texts (a ∷ [])) ≡ number_rule fun (atom_in texts a)
one_number docs f.Negate texts a h = ap (with_value items_of) (number-of (λ z. checked (neg_ℤ z)) (atom_in texts a))
one_number docs f.Abs texts a h = ap (with_value items_of) (number-of (λ z. checked (absolute z)) (atom_in texts a))
one_number docs _ texts a h = absurd (false≢true h)

pub number_done : (fun : Fun) (a : Atom) (z : ℤ) (r : Result ℤ Code) → Value z ≡ number_of a → answer_of r ≡ changed fun z → with_value items_of (with_value integer_list (answer_of r)) ≡ number_rule fun a
number_done fun a z r e d = ap (λ w. with_value items_of (with_value integer_list w)) d ∙ ap (λ w. with_value items_of (then_rule w (λ z. with_value integer_list (changed fun z)))) e

-- ---- casts and comparisons

abbrev pub cast_rule : AtomKind → Atom → Answer Items
cast_rule kind a = with_value (λ b. item_of_atom b ∷ []) (cast_atom kind a)

pub cast_of_atom : (kind : AtomKind) (a : Atom) → cast_items kind true (item_of_atom a ∷ []) ≡ cast_rule kind a
cast_of_atom kind a = ap (cast_rule kind) (back a)

pub text_of_atom : (a : Atom) → string_answer (item_of_atom a ∷ []) ≡ cast_rule k.Text a
text_of_atom (IntAtom z) = refl
text_of_atom (TextAtom t) = refl
text_of_atom (UntypedAtom t) = refl
text_of_atom (BoolAtom b) = refl

pub itself : (a : Atom) → items_of (atomized (item_of_atom a) ∷ []) ≡ item_of_atom a ∷ []
itself a = ap (λ z. item_of_atom z ∷ []) (back a)

pub compared_atoms : (op : CompOp) (a b : Atom) → two_atomic (value_comparison op) ((item_of_atom a ∷ []) ∷ (item_of_atom b ∷ []) ∷ []) ≡ with_value items_of (with_value truth (value_pair op a b))
compared_atoms op a b = ap (λ z. with_value items_of (value_comparison op (z ∷ []) (atomized (item_of_atom b) ∷ []))) (back a) ∙ ap (λ z. with_value items_of (value_comparison op (a ∷ []) (z ∷ []))) (back b)
