-- Calls of functions of one item that give an item of none too, from the rows of their operators: texts, lengths and names.
use Rattle.std.proofs.Common.{◌≡◌, ◌+◌, false, cond, not, List, [], ◌∷◌, length, refl, sym, ap, ◌∙◌, inl, pos, None}
use Rattle.std.specs.List.{filter}
use Rattle.xq_base.specs.declared.code.Code.TheVariants as c
use Rattle.xq_base.specs.declared.fun.Fun.{Fun}
use Rattle.xq_base.specs.declared.fun.Fun.TheVariants as f
use Rattle.xq_base.specs.Answers.{Answer, Value, Fault as Refused, with_value}
use Rattle.xq_base.specs.Texts.{Text}
use Rattle.xq_base.specs.Words.{space_normalized, char_count}
use Rattle.xq_base.specs.Atoms.{Atom, IntAtom, TextAtom, UntypedAtom, BoolAtom}
use Rattle.xq_base.specs.TextRules.{text_list, on_text}
use Rattle.doc_table.specs.Items.{IntItem, TextItem, UntypedItem, BoolItem, NodeItem}
use Rattle.doc_table.specs.Values.{Items, items_of, atomized, data_of}
use Rattle.doc_table.specs.NodeRules.{Docs, name_answer, local_name_answer}
use Rattle.doc_table.specs.Functions.{string_answer}
use Rattle.plan_dag.specs.declared.op.OpId.{OpId}
use Rattle.plan_dag.specs.declared.check.Check.{Check}
use Rattle.plan_dag.specs.ItemRules.{Cell, outcome_of}
use Rattle.core_meaning.specs.Expr.{Site, Rule, Apply}
use Rattle.core_meaning.specs.Meaning.{value_in}
use Rattle.lift_laws.specs.Sums.{AllOf, Ascends, Same}
use Rattle.lift_laws.specs.Iterations.{Row, Iter, item_rows, value_rows, loop_rows}
use Rattle.lift_laws.specs.Bulk.{list_of, own_walks}
use Rattle.lift_laws.specs.States.{State, at, Makes, three}
use Rattle.lift_laws.specs.Shapes.{bare}
use Rattle.lift_laws.specs.Stages.{Stages, item_marks, item_most, TextRule, Texts, Lengths, Normals, Names, LocalNames, text_fun, absent_item, text_value_rows}
use Rattle.lift_laws.specs.Lifting.{CallLifts, call_answer}
use Rattle.lift_laws.proofs.Multi.{same-of, same-trans}
use Rattle.lift_laws.proofs.Picks.{all_each, all_mono, flat-all}
use Rattle.lift_laws.proofs.Simple.{literal_stands, either_stands, left_out}
use Rattle.lift_laws.proofs.Marks.{some, unmarked_stands, fault_in}
use Rattle.lift_laws.proofs.Operands.{marks_any}
use Rattle.lift_laws.proofs.FunctionCases.{some_items}
use Rattle.lift_laws.proofs.ItemCase.{OneOrCode, first_in, faults_are, values_stand, checked_item_call}
use Rattle.lift_laws.proofs.Stagings.{CodesAre}

-- the same, but nothing of none
abbrev but_none : (Items → Answer Items) → Items → Answer Items
but_none B [] = Value []
but_none B (v ∷ vs) = B (v ∷ vs)

module _ (g : Fun) (J : Cell → Answer Items) (outcome : (v : Cell) → bare.value g (v ∷ []) ≡ outcome_of (J v)) (one : (v : Cell) → OneOrCode (c.XPTY0004 ∷ []) (J v))
    (B : Items → Answer Items) (w : Cell) (at_none : B [] ≡ Value (w ∷ [])) (at_one : (v : Cell) → B (v ∷ []) ≡ J v) (at_two : (v u : Cell) (vs : Items) → B (v ∷ u ∷ vs) ≡ Refused c.XPTY0004) where
  first_faults : (k : Check) (ks : List Check) → CodesAre (k ∷ ks) (c.XPTY0004 ∷ []) → (vs : Items) → fault_in (B vs) ≡ first_in [] g J outcome [] one (but_none B) refl at_one at_two k ks vs
  first_faults k ks e [] = ap fault_in at_none ∙ faults_are [] g J outcome [] one (but_none B) refl at_one at_two k ks e []
  first_faults k ks e (v ∷ vs) = faults_are [] g J outcome [] one (but_none B) refl at_one at_two k ks e (v ∷ vs)

  calm_but : (vs : Items) → fault_in (B vs) ≡ None → fault_in (but_none B vs) ≡ None
  calm_but [] e = refl
  calm_but (v ∷ vs) e = e

  abbrev given_in : Items → Items
  given_in vs = list_of (value_in (but_none B vs))

  none_given : (vs : Items) → some vs ≡ false → given_in vs ≡ []
  none_given [] e = refl
  none_given (v ∷ vs) e = let z = some_items (v ∷ vs) ∙ e in cc

  both_are : (vs : Items) → cond (some vs) (given_in vs) (w ∷ []) ≡ list_of (value_in (B vs))
  both_are [] = ap (λ x. list_of (value_in x)) (sym at_none)
  both_are (v ∷ vs) = ap (λ b. cond b (given_in (v ∷ vs)) (w ∷ [])) (sym (some_items (v ∷ vs)))

  text_stand : (l a : List Row) (its : List Iter) (h : Iter → List Cell) → Ascends (λ i. i.number) 0 its → Same l (loop_rows its) → Same a (value_rows h its) → AllOf (λ i. fault_in (B (h i)) ≡ None) its
      → Same (text_value_rows g w l a) (value_rows (λ i. list_of (value_in (B (h i)))) its)
  text_stand l a its h asc sl sa calm =
      let p = λ (i : Iter). some (h i) in
      let front = same-trans (values_stand [] g J outcome [] one (but_none B) refl at_one at_two h its a sa (all_mono _ _ (λ i (e : fault_in (B (h i)) ≡ None). calm_but (h i) e) its calm)) (same-of (left_out p (λ i. given_in (h i)) (λ i e. none_given (h i) e) its)) in
      let back = literal_stands w (filter (λ i. not (p i)) its) _ (unmarked_stands p its l _ sl (marks_any h its a asc sa)) in
      same-trans (either_stands p (λ i. given_in (h i)) (λ i. w ∷ []) its _ _ front back) (same-of (flat-all _ _ its (all_each _ (λ i. ap (item_rows i.number 1) (both_are (h i))) its)))

  text_call : (docs : Docs) (s s1 s2 : State) (site : Site) (r : Rule) (looped a t : OpId) (cs : List Check) → own_walks site r ≡ [] → ((h : Iter → List Cell) (i : Iter) → call_answer docs site r (h ∷ []) i ≡ B (h i))
      → Makes s s1 t three (text_value_rows g w (at s looped).rows (at s a).rows) (length (at s looped).rows + length (at s a).rows)
      → Stages site (item_most g (at s looped).rows (at s a).rows) s1 s2 (at s looped).rows (item_marks g [] (at s a).rows) cs → CallLifts docs s s2 site r looped (a ∷ []) t
  text_call docs s s1 s2 site r looped a t cs no_step rule_is m st =
      checked_item_call [] g J outcome [] one (but_none B) refl at_one at_two docs s s1 s2 site r looped a t cs no_step (tt, tt) tt B rule_is first_faults _ _ m (λ N l. l)
      (λ its h asc hl ha calm. text_stand (at s looped).rows (at s a).rows its h asc hl.rows_are ha.rows_are calm) st

-- texts, lengths and names
on_text_one : (F : Text → Atom) (b : Atom) → OneOrCode (c.XPTY0004 ∷ []) (with_value items_of (on_text (λ t. F t ∷ []) (b ∷ [])))
on_text_one F (TextAtom t) = tt
on_text_one F (UntypedAtom t) = tt
on_text_one F (IntAtom z) = inl refl
on_text_one F (BoolAtom b) = inl refl

name_one : (v : Cell) → OneOrCode (c.XPTY0004 ∷ []) (name_answer (v ∷ []))
name_one (IntItem z) = inl refl
name_one (TextItem t) = inl refl
name_one (UntypedItem t) = inl refl
name_one (BoolItem b) = inl refl
name_one (NodeItem n) = tt

name_two : (v u : Cell) (vs : Items) → name_answer (v ∷ u ∷ vs) ≡ Refused c.XPTY0004
name_two (IntItem z) u vs = refl
name_two (TextItem t) u vs = refl
name_two (UntypedItem t) u vs = refl
name_two (BoolItem b) u vs = refl
name_two (NodeItem n) u vs = refl

local_one : (v : Cell) → OneOrCode (c.XPTY0004 ∷ []) (local_name_answer (v ∷ []))
local_one (IntItem z) = inl refl
local_one (TextItem t) = inl refl
local_one (UntypedItem t) = inl refl
local_one (BoolItem b) = inl refl
local_one (NodeItem n) = tt

local_two : (v u : Cell) (vs : Items) → local_name_answer (v ∷ u ∷ vs) ≡ Refused c.XPTY0004
local_two (IntItem z) u vs = refl
local_two (TextItem t) u vs = refl
local_two (UntypedItem t) u vs = refl
local_two (BoolItem b) u vs = refl
local_two (NodeItem n) u vs = refl

pub text_rule_call : (docs : Docs) (s s1 s2 : State) (site : Site) (q : TextRule) (looped a t : OpId) (cs : List Check)
    → Makes s s1 t three (text_value_rows (text_fun q) (absent_item q) (at s looped).rows (at s a).rows) (length (at s looped).rows + length (at s a).rows)
    → Stages site (item_most (text_fun q) (at s looped).rows (at s a).rows) s1 s2 (at s looped).rows (item_marks (text_fun q) [] (at s a).rows) cs → CallLifts docs s s2 site (Apply (text_fun q)) looped (a ∷ []) t
text_rule_call docs s s1 s2 site Texts looped a t cs m st =
    text_call f.StringOf (λ v. string_answer (v ∷ [])) (λ v. refl) (λ v. tt) string_answer (absent_item Texts) refl (λ v. refl) (λ v u vs. refl) docs s s1 s2 site (Apply f.StringOf) looped a t cs refl (λ h i. refl) m st
text_rule_call docs s s1 s2 site Lengths looped a t cs m st =
    let B = λ (vs : Items). with_value items_of (on_text (λ x. IntAtom (pos (char_count x)) ∷ []) (data_of vs)) in
    text_call f.StringLength (λ v. B (v ∷ [])) (λ v. refl) (λ v. on_text_one (λ x. IntAtom (pos (char_count x))) (atomized v)) B (absent_item Lengths) refl (λ v. refl) (λ v u vs. refl) docs s s1 s2 site (Apply f.StringLength) looped a t cs refl (λ h i. refl) m st
text_rule_call docs s s1 s2 site Normals looped a t cs m st =
    let B = λ (vs : Items). with_value items_of (on_text (λ x. text_list (space_normalized x)) (data_of vs)) in
    text_call f.NormalizeSpace (λ v. B (v ∷ [])) (λ v. refl) (λ v. on_text_one (λ x. TextAtom (space_normalized x)) (atomized v)) B (absent_item Normals) refl (λ v. refl) (λ v u vs. refl) docs s s1 s2 site (Apply f.NormalizeSpace) looped a t cs refl (λ h i. refl) m st
text_rule_call docs s s1 s2 site Names looped a t cs m st =
    text_call f.Name (λ v. name_answer (v ∷ [])) (λ v. refl) name_one name_answer (absent_item Names) refl (λ v. refl) name_two docs s s1 s2 site (Apply f.Name) looped a t cs refl (λ h i. refl) m st
text_rule_call docs s s1 s2 site LocalNames looped a t cs m st =
    text_call f.LocalName (λ v. local_name_answer (v ∷ [])) (λ v. refl) local_one local_name_answer (absent_item LocalNames) refl (λ v. refl) local_two docs s s1 s2 site (Apply f.LocalName) looped a t cs refl (λ h i. refl) m st
