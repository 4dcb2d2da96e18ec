-- Calls of `concat`, from the rows of their operators: the texts of any number of arguments, from the last one on.
use Rattle.std.proofs.Common.{◌≡◌, ℕ, ◌+◌, ◌≤◌, Bool, true, false, cond, not, ◌&&◌, List, [], ◌∷◌, ◌++◌, length, map, refl, ap, ◌∙◌, arith, Option, Some, None}
use Rattle.std.proofs.Math.Nat.{max-le}
use Rattle.std.proofs.lemmas.Bool.{le-ltb}
use Rattle.xq_base.specs.declared.code.Code.TheVariants as c
use Rattle.xq_base.specs.declared.fun.Fun.{Fun}
use Rattle.xq_base.specs.declared.fun.Fun.TheVariants as f
use Rattle.xq_base.specs.Answers.{Answer, Value, Fault as Refused, check_rank, with_value, both_of}
use Rattle.xq_base.specs.Atoms.{Atom, text_of}
use Rattle.xq_base.specs.Comparisons.{at_most_one}
use Rattle.xq_base.specs.Aggregates.{all_of}
use Rattle.xq_base.specs.TextRules.{text_list, texts_joined}
use Rattle.doc_table.specs.Items.{TextItem}
use Rattle.doc_table.specs.Values.{Items, items_of, atomized, data_of}
use Rattle.doc_table.specs.NodeRules.{Docs}
use Rattle.doc_table.specs.Functions.{concat_answer}
use Rattle.plan_dag.specs.declared.op.OpId.{OpId}
use Rattle.plan_dag.specs.declared.check.Check.{Check}
use Rattle.plan_dag.specs.Cells.{Outcome, Gives, Fails, Silent, given}
use Rattle.plan_dag.specs.ItemRules.{Cell}
use Rattle.core_meaning.specs.Expr.{Site, Apply}
use Rattle.core_meaning.specs.Meaning.{value_in}
use Rattle.lift_laws.specs.Sums.{AllOf, Ascends, Same}
use Rattle.lift_laws.specs.Iterations.{Row, Iter, item_rows, value_rows, loop_rows}
use Rattle.lift_laws.specs.Bulk.{list_of}
use Rattle.lift_laws.specs.States.{State, at, Makes, HoldAll, three}
use Rattle.lift_laws.specs.Shapes.{bare, second_rows, restrict_rows}
use Rattle.lift_laws.specs.Stages.{Stages}
use Rattle.lift_laws.specs.Pairs.{gathered, fit_loop, both_rows, filled_rows}
use Rattle.lift_laws.specs.Sequences.{rows_at, concat_rows, concat_marks, concat_most}
use Rattle.lift_laws.specs.Lifting.{CallLifts}
use Rattle.lift_laws.proofs.Multi.{same-of, same-trans, same-length, length-total}
use Rattle.lift_laws.proofs.Picks.{all_each, all_mono, flat-all}
use Rattle.lift_laws.proofs.Sizes.{size_cells, size_loop, total_most}
use Rattle.lift_laws.proofs.Keeping.{append_none}
use Rattle.lift_laws.proofs.Simple.{literal_stands}
use Rattle.lift_laws.proofs.Marks.{Marks, marks_is, fault_in}
use Rattle.lift_laws.proofs.Operands.{has_two, marks_second}
use Rattle.lift_laws.proofs.Cleared.{AllMark, none_of}
use Rattle.lift_laws.proofs.Staged.{op_sizes}
use Rattle.lift_laws.proofs.Stagings.{stages_call}
use Rattle.lift_laws.proofs.PairRows.{given_at, few_left, few_both, pair_values_stand, fill, filled_stands, few_filled, marks_gathered}

-- what some of any number of tables name
pub marks_of_some : (bs : List (List Row)) (ps : List (Iter → Bool)) (its : List Iter) (l : List Row) → Ascends (λ i. i.number) 0 its → Same l (loop_rows its) → AllMark bs ps its → Marks (gathered l bs) (λ i. not (none_of ps i)) its
marks_of_some [] [] its l asc sl m = record { each = all_each _ (λ i. refl) its }
marks_of_some [] (p ∷ ps) its l asc sl m = absurd m
marks_of_some (b ∷ bs) [] its l asc sl m = absurd m
marks_of_some (b ∷ []) (p ∷ []) its l asc sl m = marks_is (all_each _ (λ i. once (p i)) its) m.0
  where
    once : (d : Bool) → d ≡ not (not d && true)
    once true = refl
    once false = refl
marks_of_some (b ∷ []) (p ∷ q ∷ ps) its l asc sl m = absurd m.1
marks_of_some (b ∷ d ∷ bs) (p ∷ []) its l asc sl m = absurd m.1
marks_of_some (b ∷ d ∷ bs) (p ∷ q ∷ ps) its l asc sl m = marks_gathered (b ∷ d ∷ bs) (p ∷ q ∷ ps) its l asc sl m

-- the text of the arguments, nothing where one has a second item
abbrev concat_at : List Items → Items
concat_at [] = TextItem [] ∷ []
concat_at (vs ∷ vss) = given_at f.Concat (fill (TextItem []) vs) (concat_at vss)

abbrev texts_in : List Items → Answer (List (Option Atom))
texts_in vss = all_of at_most_one (map data_of vss)

abbrev as_text : Answer (List (Option Atom)) → Items
as_text (Value as') = TextItem (texts_joined as') ∷ []
as_text (Refused d) = []

concat_text : (vss : List Items) → concat_at vss ≡ as_text (texts_in vss)
concat_text [] = refl
concat_text ([] ∷ vss) = ap (given_at f.Concat (TextItem [] ∷ [])) (concat_text vss) ∙ go (texts_in vss)
  where
    go : (x : Answer (List (Option Atom))) → given_at f.Concat (TextItem [] ∷ []) (as_text x) ≡ as_text (with_value (λ p. p.0 ∷ p.1) (both_of (Value None) x))
    go (Value as') = ap (λ z. TextItem z ∷ []) (append_none (texts_joined as'))
    go (Refused d) = refl
concat_text ((v ∷ []) ∷ vss) = ap (given_at f.Concat (v ∷ [])) (concat_text vss) ∙ go (texts_in vss)
  where
    go : (x : Answer (List (Option Atom))) → given_at f.Concat (v ∷ []) (as_text x) ≡ as_text (with_value (λ p. p.0 ∷ p.1) (both_of (Value (Some (atomized v))) x))
    go (Value as') = ap (λ z. TextItem (text_of (atomized v) ++ z) ∷ []) (append_none (texts_joined as'))
    go (Refused d) = refl
concat_text ((v ∷ w ∷ us) ∷ vss) = go (texts_in vss)
  where
    go : (x : Answer (List (Option Atom))) → [] ≡ as_text (with_value (λ p. p.0 ∷ p.1) (both_of (Refused c.XPTY0004) x))
    go (Value as') = refl
    go (Refused d) = refl

concat_value : (vss : List Items) → concat_at vss ≡ list_of (value_in (concat_answer vss))
concat_value vss = concat_text vss ∙ go (texts_in vss)
  where
    go : (x : Answer (List (Option Atom))) → as_text x ≡ list_of (value_in (with_value items_of (with_value (λ as'. text_list (texts_joined as')) x)))
    go (Value as') = refl
    go (Refused d) = refl

-- which argument has a second item
abbrev twos : List (Iter → List Cell) → List (Iter → Bool)
twos [] = []
twos (g ∷ gs) = (λ i. has_two (g i)) ∷ twos gs

texts_fault : (gs : List (Iter → List Cell)) (i : Iter) → fault_in (texts_in (map (λ g. g i) gs)) ≡ cond (not (none_of (twos gs) i)) (Some c.XPTY0004) None
texts_fault [] i = refl
texts_fault (g ∷ gs) i = go (g i) (texts_in (map (λ k. k i) gs)) (none_of (twos gs) i) (texts_fault gs i)
  where
    behind : (a : Option Atom) (x : Answer (List (Option Atom))) → fault_in (with_value (λ (p : Option Atom × List (Option Atom)). p.0 ∷ p.1) (both_of (Value a) x)) ≡ fault_in x
    behind a (Value as') = refl
    behind a (Refused d) = refl

    wrong : (x : Answer (List (Option Atom))) → fault_in (with_value (λ (p : Option Atom × List (Option Atom)). p.0 ∷ p.1) (both_of (Refused c.XPTY0004) x)) ≡ Some c.XPTY0004
    wrong (Value as') = refl
    wrong (Refused d) = ap (λ b. Some (cond b d c.XPTY0004)) (le-ltb (check_rank d) (check_rank c.XPTY0004) (omega arith))

    go : (vs : Items) (x : Answer (List (Option Atom))) (r : Bool) → fault_in x ≡ cond (not r) (Some c.XPTY0004) None
        → fault_in (with_value (λ (p : Option Atom × List (Option Atom)). p.0 ∷ p.1) (both_of (at_most_one (data_of vs)) x)) ≡ cond (not (not (has_two vs) && r)) (Some c.XPTY0004) None
    go [] x r e = behind None x ∙ e
    go (v ∷ []) x r e = behind (Some (atomized v)) x ∙ e
    go (v ∷ w ∷ vs) x r e = wrong x

concat_fault : (gs : List (Iter → List Cell)) (i : Iter) → fault_in (concat_answer (map (λ g. g i) gs)) ≡ cond (not (none_of (twos gs) i)) (Some c.XPTY0004) None
concat_fault gs i = go (texts_in (map (λ g. g i) gs)) ∙ texts_fault gs i
  where
    go : (x : Answer (List (Option Atom))) → fault_in (with_value items_of (with_value (λ as'. text_list (texts_joined as')) x)) ≡ fault_in x
    go (Value as') = refl
    go (Refused d) = refl

pub given_few : (x : Outcome Cell) → length (given x) ≤ 1
given_few (Gives v) = omega arith
given_few (Fails d) = omega arith
given_few Silent = omega arith

pub pair_few : (g : Fun) (us vs : Items) → length (given_at g us vs) ≤ 1
pair_few g [] vs = omega arith
pair_few g (u ∷ []) [] = omega arith
pair_few g (u ∷ []) (v ∷ []) = given_few (bare.value g (u ∷ v ∷ []))
pair_few g (u ∷ []) (v ∷ w ∷ vs) = omega arith
pair_few g (u ∷ w ∷ us) vs = omega arith

concat_few : (vss : List Items) → length (concat_at vss) ≤ 1
concat_few [] = omega arith
concat_few (vs ∷ vss) = pair_few f.Concat (fill (TextItem []) vs) (concat_at vss)

-- all tables on the way
abbrev mids : List Row → List (List Row) → List (List Row)
mids l [] = []
mids l (a ∷ as') =
    filled_rows (TextItem []) l a ∷ concat_rows l as' ∷ restrict_rows (fit_loop l (filled_rows (TextItem []) l a) (concat_rows l as')) (filled_rows (TextItem []) l a)
    ∷ both_rows l (filled_rows (TextItem []) l a) (concat_rows l as') ∷ mids l as'

module _ (s : State) (looped : OpId) where
  bounded : (N : ℕ) (ts : List OpId) → length (at s looped).rows + op_sizes s ts ≤ N → AllOf (λ (j : List Row). length j ≤ N) (mids (at s looped).rows (rows_at s ts)) → concat_most (at s looped).rows (rows_at s ts) ≤ N
  bounded N [] l w = omega arith
  bounded N (t ∷ ts) l w =
      let one : length (at s looped).rows + length (at s t).rows ≤ N = omega arith in
      let two : length (at s looped).rows ≤ N = omega arith in
      max-le (max-le one (max-le (max-le two w.0) (max-le w.1.0 (max-le w.1.1.0 w.1.1.1.0)))) (bounded N ts (omega arith) w.1.1.1.1)

  module _ (its : List Iter) (asc : Ascends (λ i. i.number) 0 its) (sl : Same (at s looped).rows (loop_rows its)) where
    stand : (ts : List OpId) (gs : List (Iter → List Cell)) → HoldAll s ts gs its → Same (concat_rows (at s looped).rows (rows_at s ts)) (value_rows (λ i. concat_at (map (λ g. g i) gs)) its)
    stand [] [] h = literal_stands (TextItem []) its (at s looped).rows sl
    stand [] (g ∷ gs) h = absurd h
    stand (t ∷ ts) [] h = absurd h
    stand (t ∷ ts) (g ∷ gs) h =
        pair_values_stand (λ i. fill (TextItem []) (g i)) (λ i. concat_at (map (λ k. k i) gs)) its (at s looped).rows _ _ asc sl (filled_stands (TextItem []) g its _ _ asc sl h.0.rows_are) (stand ts gs h.1) f.Concat

    few : (ts : List OpId) (gs : List (Iter → List Cell)) → HoldAll s ts gs its → AllOf (λ (j : List Row). length j ≤ length (at s looped).rows + op_sizes s ts) (mids (at s looped).rows (rows_at s ts))
    few [] [] h = tt
    few [] (g ∷ gs) h = absurd h
    few (t ∷ ts) [] h = absurd h
    few (t ∷ ts) (g ∷ gs) h =
        let sf = filled_stands (TextItem []) g its _ _ asc sl h.0.rows_are in
        let sr = stand ts gs h.1 in
        let a = few_filled (TextItem []) g its _ _ asc sl h.0.rows_are in
        let b = same-length sr ∙ size_cells (λ i. concat_at (map (λ k. k i) gs)) its in
        let d = total_most (λ i. length (concat_at (map (λ k. k i) gs))) (λ i. 1) its (λ i. concat_few (map (λ k. k i) gs)) in
        let e = length-total its in
        let z = same-length sl ∙ size_loop its in
        let u = few_left (λ i. fill (TextItem []) (g i)) (λ i. concat_at (map (λ k. k i) gs)) its (at s looped).rows _ _ asc sl sf sr in
        let v = few_both (λ i. fill (TextItem []) (g i)) (λ i. concat_at (map (λ k. k i) gs)) its (at s looped).rows _ _ asc sl sf sr in
        let one : length (filled_rows (TextItem []) (at s looped).rows (at s t).rows) ≤ length (at s looped).rows + op_sizes s (t ∷ ts) = omega arith in
        let two : length (concat_rows (at s looped).rows (rows_at s ts)) ≤ length (at s looped).rows + op_sizes s (t ∷ ts) = omega arith in
        (one, (two, (omega arith, (omega arith, all_mono _ _ (λ (j : List Row) (q : length j ≤ length (at s looped).rows + op_sizes s ts). let r : length j ≤ length (at s looped).rows + op_sizes s (t ∷ ts) = omega arith in r) (mids (at s looped).rows (rows_at s ts)) (few ts gs h.1)))))

    marks : (ts : List OpId) (gs : List (Iter → List Cell)) → HoldAll s ts gs its → AllMark (map second_rows (rows_at s ts)) (twos gs) its
    marks [] [] h = tt
    marks [] (g ∷ gs) h = absurd h
    marks (t ∷ ts) [] h = absurd h
    marks (t ∷ ts) (g ∷ gs) h = (marks_second g its _ asc h.0.rows_are, marks ts gs h.1)

pub concat_call : (docs : Docs) (s s1 s2 : State) (site : Site) (looped : OpId) (ts : List OpId) (t : OpId) (cs : List Check)
    → Makes s s1 t three (concat_rows (at s looped).rows (rows_at s ts)) (concat_most (at s looped).rows (rows_at s ts))
    → Stages site (concat_most (at s looped).rows (rows_at s ts)) s1 s2 (at s looped).rows (concat_marks (at s looped).rows (rows_at s ts)) cs
    → CallLifts docs s s2 site (Apply f.Concat) looped ts t
concat_call docs s s1 s2 site looped ts t cs m st =
    stages_call docs s s1 s2 site (Apply f.Concat) looped ts t cs (concat_marks (at s looped).rows (rows_at s ts)) (mids (at s looped).rows (rows_at s ts)) (λ gs. (λ i. not (none_of (twos gs) i)) ∷ []) refl (tt, tt) (refl, tt) _ _ _ m st
    (λ N l w. let q = bounded s looped N ts l w in (q, q))
    (λ its gs tree asc hl hp rooted. ((marks_of_some (map second_rows (rows_at s ts)) (twos gs) its _ asc hl.rows_are (marks s looped its asc hl.rows_are ts gs hp), tt), all_each _ (λ i. concat_fault gs i) its))
    (λ its gs asc hl hp. few s looped its asc hl.rows_are ts gs hp)
    (λ its gs tree asc hl hp rooted z. same-trans (stand s looped its asc hl.rows_are ts gs hp) (same-of (flat-all _ _ its (all_each _ (λ i. ap (item_rows i.number 1) (concat_value (map (λ g. g i) gs))) its))))
