-- A call on items is the rule on their atomic values, and its value is an item.
use Rattle.std.proofs.Common.{◌≡◌, ◌≤◌, ◌<◌, Bool, true, false, not, ◌||◌, List, [], ◌∷◌, length, Option, Some, None, Result, Ok, Err, refl, sym, ap, ◌∙◌, subst, OnErr, arith, pos}
use Rattle.std.specs.Prelude.{IfOk, IfErr, slice_index_or}
use Rattle.std.proofs.lemmas.Bool.{false≢true}
use Rattle.xq_base.specs.declared.fun.Fun.{Fun}
use Rattle.xq_base.specs.declared.fun.Fun.TheVariants as f
use Rattle.xq_base.specs.declared.fun.AtomKind.TheVariants as k
use Rattle.xq_base.specs.declared.item.TextId.{TextId}
use Rattle.xq_base.specs.declared.item.FragKey.{FragKey}
use Rattle.xq_base.specs.declared.item.Item.{Item as Held}
use Rattle.xq_base.specs.Answers.{Answer, Value, with_value, then_rule}
use Rattle.xq_base.specs.Texts.{Text, trimmed}
use Rattle.xq_base.specs.Words.{contains, starts_with, ends_with, text_before, text_after, space_normalized, char_count}
use Rattle.xq_base.specs.Atoms.{Atom, IntAtom, text_of}
use Rattle.xq_base.specs.Arithmetic.{negation, arithmetic, sum_of, difference_of, product_of, quotient_of, remainder_of}
use Rattle.xq_base.specs.declared.fun.CompOp.TheVariants as o
use Rattle.xq_base.specs.Comparisons.{value_comparison, truth}
use Rattle.xq_base.specs.TextRules.{absolute_of, text_list, on_text, on_texts, one_text, substring_from, substring_of, translated, compare_texts}
use Rattle.doc_table.specs.Content.{as_qname, as_target}
use Rattle.doc_table.specs.Tree.{Tree, Label, OfDocument, OfElement, OfAttribute, OfText, OfComment, OfInstruction}
use Rattle.doc_table.specs.Items.{Item, IntItem, TextItem, UntypedItem, BoolItem, NodeItem, item_of}
use Rattle.doc_table.specs.Nodes.{typed_from, string_value, label_of_node}
use Rattle.doc_table.specs.Values.{Items, items_of, item_of_atom, atomized, text_of_item, cast_of}
use Rattle.doc_table.specs.NodeRules.{Docs}
use Rattle.doc_table.specs.Functions.{fun_answer}
use Rattle.doc_table.specs.Stores.{Holdings}
use Rattle.doc_table.specs.StoredItems.{trees_of, ItemGiven}
use Rattle.xq_funs.specs.declared.fault.FunFault.{FunFault}
use Rattle.xq_funs.specs.declared.fault.FunFault.TheVariants as x
use Rattle.xq_funs.specs.declared.computed.Computed.{Computed}
use Rattle.xq_funs.specs.Calls.{RuleGives, Gives, computed_in, is_new_text, is_unary, is_binary, is_ternary, values}
use Rattle.xq_funs.specs.CallRules.{is_call, is_concat, wants_memory}
use Rattle.xq_funs.proofs.FunLaws.{back}

typed-text : (l : Option (Label Text)) (s : Text) → text_of (typed_from l s) ≡ s
typed-text None s = refl
typed-text (Some OfDocument) s = refl
typed-text (Some (OfElement n as')) s = refl
typed-text (Some (OfAttribute n v)) s = refl
typed-text (Some (OfText v)) s = refl
typed-text (Some (OfComment v)) s = refl
typed-text (Some (OfInstruction n v)) s = refl

pub item-text : (v : Item Text) → text_of_item v ≡ text_of (atomized v)
item-text (IntItem z) = refl
item-text (TextItem t) = refl
item-text (UntypedItem t) = refl
item-text (BoolItem b) = refl
item-text (NodeItem n) = sym (typed-text (label_of_node n) (string_value n))

-- a function of one atomic value sees no more of an item than that value
pub one_alone : (docs : Docs) (fun : Fun) (v : Item Text) (a : Atom) → a ≡ atomized v → is_unary fun ≡ true → fun_answer docs fun ((v ∷ []) ∷ []) ≡ fun_answer docs fun ((item_of_atom a ∷ []) ∷ [])
one_alone docs fun v a e h = by fun h
  where
    same : atomized v ≡ atomized (item_of_atom a)
    same = sym e ∙ sym (back a)

    by : (fun : Fun) → is_unary fun ≡ true → fun_answer docs fun ((v ∷ []) ∷ []) ≡ fun_answer docs fun ((item_of_atom a ∷ []) ∷ [])
    by f.Negate h = ap (λ z. with_value items_of (negation (z ∷ []))) same
    by f.Abs h = ap (λ z. with_value items_of (absolute_of (z ∷ []))) same
    by f.XsInteger h = ap (λ z. cast_of k.Integer true (z ∷ [])) same
    by f.XsString h = ap (λ z. cast_of k.Text true (z ∷ [])) same
    by f.XsBoolean h = ap (λ z. cast_of k.Boolean true (z ∷ [])) same
    by f.XsUntypedAtomic h = ap (λ z. cast_of k.Untyped true (z ∷ [])) same
    by (f.CastTo kind) h = ap (λ z. cast_of kind true (z ∷ [])) same
    by f.StringOf h = ap (λ t. Value (TextItem t ∷ [])) (item-text v ∙ ap text_of same ∙ sym (item-text (item_of_atom a)))
    by f.Atomize h = ap (λ z. Value (items_of (z ∷ []))) same
    by f.StringLength h = ap (λ z. with_value items_of (on_text (λ t. IntAtom (pos (char_count t)) ∷ []) (z ∷ []))) same
    by f.NormalizeSpace h = ap (λ z. with_value items_of (on_text (λ t. text_list (space_normalized t)) (z ∷ []))) same
    by f.QName h = ap (λ z. with_value (λ t. TextItem t ∷ []) (then_rule (one_text (z ∷ [])) (λ t. as_qname (trimmed t)))) same
    by f.PiTarget h = ap (λ z. with_value (λ t. TextItem t ∷ []) (then_rule (one_text (z ∷ [])) (λ t. as_target (trimmed t)))) same
    by _ h = absurd (false≢true h)

either : (a b : Bool) → a ≡ true → (a || b) ≡ true
either a b e = ap (λ z. z || b) e

pub given_value : (wants plain : Bool) (texts later : List Text) (h : Holdings) (wanted answer : Answer Items) (value : Computed) (r : Result Held FunFault)
    → RuleGives wants texts answer (Ok value) → wanted ≡ answer
    → IfOk r (λ item. (trees : FragKey → Tree TextId) → item_of later trees item ≡ item_of_atom (computed_in texts value))
    → IfOk r (λ item. (h : Holdings) → ItemGiven later h item)
    → IfErr r (λ e. e ≡ x.NoMemory) → OnErr r (is_new_text value ≡ true)
    → Gives (wants || not plain) later h wanted r
given_value wants plain texts later h wanted answer value (Ok item) g e v i n m = (e ∙ g.0 ∙ ap (λ z. Value (z ∷ [])) (sym (v (trees_of h))), i h)
given_value wants plain texts later h wanted answer value (Err z) g e v i n m = subst (λ w. Gives (wants || not plain) later h wanted (Err w)) (sym n) (either wants (not plain) (g.2 m))

pub given_fault : (wants plain : Bool) (texts : List Text) (h : Holdings) (wanted answer : Answer Items) (fault : FunFault)
    → RuleGives wants texts answer (Err fault) → wanted ≡ answer → Gives (wants || not plain) texts h wanted (Err fault)
given_fault wants plain texts h wanted answer (x.Code code) g e = e ∙ g
given_fault wants plain texts h wanted answer x.NoMemory g e = either wants (not plain) g

-- the same of a function of two
pub two_alone : (docs : Docs) (fun : Fun) (u v : Item Text) (a b : Atom) → a ≡ atomized u → b ≡ atomized v → is_binary fun ≡ true
    → fun_answer docs fun ((u ∷ []) ∷ (v ∷ []) ∷ []) ≡ fun_answer docs fun ((item_of_atom a ∷ []) ∷ (item_of_atom b ∷ []) ∷ [])
two_alone docs fun u v a b e d h = by fun h
  where
    pairs : (g : List Atom → List Atom → Answer (List Atom)) → with_value items_of (g (atomized u ∷ []) (atomized v ∷ [])) ≡ with_value items_of (g (atomized (item_of_atom a) ∷ []) (atomized (item_of_atom b) ∷ []))
    pairs g = ap (λ z. with_value items_of (g (z ∷ []) (atomized v ∷ []))) (sym e ∙ sym (back a)) ∙ ap (λ z. with_value items_of (g (atomized (item_of_atom a) ∷ []) (z ∷ []))) (sym d ∙ sym (back b))

    by : (fun : Fun) → is_binary fun ≡ true → fun_answer docs fun ((u ∷ []) ∷ (v ∷ []) ∷ []) ≡ fun_answer docs fun ((item_of_atom a ∷ []) ∷ (item_of_atom b ∷ []) ∷ [])
    by f.Add h = pairs (arithmetic sum_of)
    by f.Subtract h = pairs (arithmetic difference_of)
    by f.Multiply h = pairs (arithmetic product_of)
    by f.IntegerDivide h = pairs (arithmetic quotient_of)
    by f.Modulo h = pairs (arithmetic remainder_of)
    by f.Eq h = pairs (value_comparison o.Eq)
    by f.Ne h = pairs (value_comparison o.Ne)
    by f.Lt h = pairs (value_comparison o.Lt)
    by f.Le h = pairs (value_comparison o.Le)
    by f.Gt h = pairs (value_comparison o.Gt)
    by f.Ge h = pairs (value_comparison o.Ge)
    by f.Contains h = pairs (on_texts (λ t u. truth (contains t u)))
    by f.StartsWith h = pairs (on_texts (λ t u. truth (starts_with t u)))
    by f.EndsWith h = pairs (on_texts (λ t u. truth (ends_with t u)))
    by f.SubstringBefore h = pairs (on_texts (λ t u. text_list (text_before t u)))
    by f.SubstringAfter h = pairs (on_texts (λ t u. text_list (text_after t u)))
    by f.Substring h = pairs substring_from
    by f.Compare h = pairs compare_texts
    by _ h = absurd (false≢true h)

-- the same of a function of three
pub three_alone : (docs : Docs) (fun : Fun) (u v w : Item Text) (a b d : Atom) → a ≡ atomized u → b ≡ atomized v → d ≡ atomized w → is_ternary fun ≡ true
    → fun_answer docs fun ((u ∷ []) ∷ (v ∷ []) ∷ (w ∷ []) ∷ []) ≡ fun_answer docs fun ((item_of_atom a ∷ []) ∷ (item_of_atom b ∷ []) ∷ (item_of_atom d ∷ []) ∷ [])
three_alone docs fun u v w a b d p q r h = by fun h
  where
    triples : (g : List Atom → List Atom → List Atom → Answer (List Atom)) → with_value items_of (g (atomized u ∷ []) (atomized v ∷ []) (atomized w ∷ [])) ≡ with_value items_of (g (atomized (item_of_atom a) ∷ []) (atomized (item_of_atom b) ∷ []) (atomized (item_of_atom d) ∷ []))
    triples g =
        ap (λ z. with_value items_of (g (z ∷ []) (atomized v ∷ []) (atomized w ∷ []))) (sym p ∙ sym (back a))
        ∙ ap (λ z. with_value items_of (g (atomized (item_of_atom a) ∷ []) (z ∷ []) (atomized w ∷ []))) (sym q ∙ sym (back b))
        ∙ ap (λ z. with_value items_of (g (atomized (item_of_atom a) ∷ []) (atomized (item_of_atom b) ∷ []) (z ∷ []))) (sym r ∙ sym (back d))

    by : (fun : Fun) → is_ternary fun ≡ true → fun_answer docs fun ((u ∷ []) ∷ (v ∷ []) ∷ (w ∷ []) ∷ []) ≡ fun_answer docs fun ((item_of_atom a ∷ []) ∷ (item_of_atom b ∷ []) ∷ (item_of_atom d ∷ []) ∷ [])
    by f.Substring h = triples substring_of
    by f.Translate h = triples translated
    by _ h = absurd (false≢true h)

-- ---- what a call gives

-- a call that may want memory more often
pub gives_more : (w v : Bool) (texts : List Text) (h : Holdings) (answer : Answer Items) (r : Result Held FunFault) → (w ≡ true → v ≡ true) → Gives w texts h answer r → Gives v texts h answer r
gives_more w v texts h answer (Ok item) m g = g
gives_more w v texts h answer (Err (x.Code code)) m g = g
gives_more w v texts h answer (Err x.NoMemory) m g = m g

-- the same of a list of arguments that is spelled otherwise
pub as_list : (fun : Fun) (texts later : List Text) (h : Holdings) (docs : Docs) (r : Result Held FunFault) (xs ys : List Held) → xs ≡ ys
    → Gives (wants_memory fun ys) later h (fun_answer docs fun (values texts h ys)) r → Gives (wants_memory fun xs) later h (fun_answer docs fun (values texts h xs)) r
as_list fun texts later h docs r xs ys e g = subst (λ z. Gives (wants_memory fun z) later h (fun_answer docs fun (values texts h z)) r) (sym e) g

pub none_left : (xs : List Held) → length xs < 1 → xs ≡ []
none_left [] l = refl
none_left (x ∷ xs) l = absurd (omega arith)

pub one_item : (xs : List Held) (d : Held) → 1 ≤ length xs → length xs < 2 → xs ≡ slice_index_or xs 0 d ∷ []
one_item [] d l m = absurd (omega arith)
one_item (x ∷ []) d l m = refl
one_item (x ∷ y ∷ xs) d l m = absurd (omega arith)

pub two_items : (xs : List Held) (d e : Held) → 2 ≤ length xs → length xs < 3 → xs ≡ slice_index_or xs 0 d ∷ slice_index_or xs 1 e ∷ []
two_items [] d e l m = absurd (omega arith)
two_items (x ∷ []) d e l m = absurd (omega arith)
two_items (x ∷ y ∷ []) d e l m = refl
two_items (x ∷ y ∷ z ∷ xs) d e l m = absurd (omega arith)

pub three_items : (xs : List Held) (d e k : Held) → 3 ≤ length xs → length xs < 4 → xs ≡ slice_index_or xs 0 d ∷ slice_index_or xs 1 e ∷ slice_index_or xs 2 k ∷ []
three_items [] d e k l m = absurd (omega arith)
three_items (x ∷ []) d e k l m = absurd (omega arith)
three_items (x ∷ y ∷ []) d e k l m = absurd (omega arith)
three_items (x ∷ y ∷ z ∷ []) d e k l m = refl
three_items (x ∷ y ∷ z ∷ w ∷ xs) d e k l m = absurd (omega arith)

pub concat_alone : (fun : Fun) → is_concat fun ≡ true → fun ≡ f.Concat
concat_alone f.Concat e = refl
concat_alone _ e = absurd (false≢true e)

pub or_else : (a b : Bool) → (a || b) ≡ true → a ≡ false → b ≡ true
or_else a b e q = ap (λ z. z || b) (sym q) ∙ e

pub more_than_three : (fun : Fun) (xs : List Held) → is_call fun xs ≡ true → 4 ≤ length xs → is_concat fun ≡ true
more_than_three fun [] e l = absurd (omega arith)
more_than_three fun (x ∷ []) e l = absurd (omega arith)
more_than_three fun (x ∷ y ∷ []) e l = absurd (omega arith)
more_than_three fun (x ∷ y ∷ z ∷ []) e l = absurd (omega arith)
more_than_three fun (x ∷ y ∷ z ∷ w ∷ xs) e l = e
