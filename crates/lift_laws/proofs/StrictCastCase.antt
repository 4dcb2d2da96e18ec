-- Calls of casts of exactly one item, from the rows of their operators.
use Rattle.std.proofs.Common.{◌≡◌, ℕ, ◌+◌, Bool, false, not, ◌||◌, List, [], ◌∷◌, ◌++◌, length, map, refl, sym, ap, ◌∙◌, ⊎_elim, arith, Some, None}
use Rattle.std.specs.List.{flat_map, list_any}
use Rattle.xq_base.specs.declared.code.Code.TheVariants as c
use Rattle.xq_base.specs.declared.fun.Fun.TheVariants as f
use Rattle.xq_base.specs.declared.fun.AtomKind.{AtomKind}
use Rattle.xq_base.specs.Answers.{Answer, Value, Fault as Refused}
use Rattle.doc_table.specs.Values.{Items, atomized, cast_items}
use Rattle.doc_table.specs.NodeRules.{Docs}
use Rattle.plan_dag.specs.declared.op.OpId.{OpId}
use Rattle.plan_dag.specs.declared.check.Check.{Check}
use Rattle.plan_dag.specs.Cells.{given, code_in}
use Rattle.plan_dag.specs.ItemRules.{Cell, outcome_of}
use Rattle.plan_dag.specs.Rows.{code_eq, is_code}
use Rattle.plan_dag.specs.Meaning.{cells as cells_at}
use Rattle.core_meaning.specs.declared.node.Occurs.TheVariants as o
use Rattle.core_meaning.specs.Expr.{Site, CastTo}
use Rattle.core_meaning.specs.Meaning.{value_in}
use Rattle.lift_laws.specs.Iterations.{Row, Iter, num, item_rows}
use Rattle.lift_laws.specs.Bulk.{list_of}
use Rattle.lift_laws.specs.States.{State, at, Makes, column, three}
use Rattle.lift_laws.specs.Shapes.{bare, pair, pick, four, item_value_rows}
use Rattle.lift_laws.specs.Stages.{Stages}
use Rattle.lift_laws.specs.TypeTests.{other_counts}
use Rattle.lift_laws.specs.Conversions.{strict_marks}
use Rattle.lift_laws.specs.Lifting.{CallLifts}
use Rattle.lift_laws.proofs.Multi.{same-of, same-trans, same-map, same-flat}
use Rattle.lift_laws.proofs.Picks.{all_mono, flat-all, flat-flat, map-flat}
use Rattle.lift_laws.proofs.Marks.{fault_in, code_self}
use Rattle.lift_laws.proofs.Cleared.{none_of}
use Rattle.lift_laws.proofs.Stagings.{stages_one}
use Rattle.lift_laws.proofs.ItemCase.{fails_at, marks_fail, OneOrCode, cast_one}
use Rattle.lift_laws.proofs.ConcatCase.{marks_of_some}
use Rattle.lift_laws.proofs.TypeCase.{count_tests, count_marks}
use Rattle.lift_laws.proofs.ReadingCase.{fault_by}

abbrev tests : AtomKind → (Iter → List Cell) → List (Iter → Bool)
tests kind h = (λ i. not (none_of (count_tests o.One h) i)) ∷ (λ i. list_any (fails_at (f.CastTo kind) c.FORG0001) (h i)) ∷ []

one_fault : (x : Answer Items) → OneOrCode (c.FORG0001 ∷ []) x → fault_in x ≡ fault_by false (is_code c.FORG0001 (code_in (outcome_of x)) || false)
one_fault (Value []) h = absurd h
one_fault (Value (w ∷ [])) h = refl
one_fault (Value (w ∷ u ∷ ws)) h = absurd h
one_fault (Refused d) h = ⊎_elim (λ e. ap Some e ∙ sym (ap (λ z. fault_by false (z || false)) (ap (code_eq c.FORG0001) e ∙ code_self c.FORG0001))) (λ e. absurd e) h

cast_fault : (kind : AtomKind) (h : Iter → List Cell) (i : Iter) → fault_in (cast_items kind false (h i)) ≡ fault_by (not (none_of (count_tests o.One h) i)) (list_any (fails_at (f.CastTo kind) c.FORG0001) (h i))
cast_fault kind h i = go (h i)
  where
    go : (vs : Items) → fault_in (cast_items kind false vs) ≡ fault_by (not (none_of (count_tests o.One (λ j. vs)) i)) (list_any (fails_at (f.CastTo kind) c.FORG0001) vs)
    go [] = refl
    go (v ∷ []) = one_fault (cast_items kind false (v ∷ [])) (cast_one kind (atomized v))
    go (v ∷ w ∷ vs) = refl

abbrev with_cast : AtomKind → Row → List Row
with_cast kind r = map (λ v. r ++ v ∷ []) (given (bare.value (f.CastTo kind) (cells_at bare three (column 2 ∷ []) r)))

abbrev out : Row → Row
out r = pick four (pair 0 0 ∷ pair 1 1 ∷ pair 2 3 ∷ []) r

one_value : (n : ℕ) (v : Cell) (x : Answer Items) → OneOrCode (c.FORG0001 ∷ []) x → map out (map (λ y. (num n ∷ num 1 ∷ v ∷ []) ++ y ∷ []) (given (outcome_of x)) ++ []) ≡ item_rows n 1 (list_of (value_in x))
one_value n v (Value []) h = absurd h
one_value n v (Value (w ∷ [])) h = refl
one_value n v (Value (w ∷ u ∷ ws)) h = absurd h
one_value n v (Refused d) h = refl

cast_value : (kind : AtomKind) (n : ℕ) (vs : Items) → fault_in (cast_items kind false vs) ≡ None → map out (flat_map (with_cast kind) (item_rows n 1 vs)) ≡ item_rows n 1 (list_of (value_in (cast_items kind false vs)))
cast_value kind n [] e = refl
cast_value kind n (v ∷ []) e = one_value n v (cast_items kind false (v ∷ [])) (cast_one kind (atomized v))
cast_value kind n (v ∷ w ∷ vs) e = cc

pub strict_cast_call : (docs : Docs) (s s1 s2 : State) (site : Site) (kind : AtomKind) (looped a t : OpId) (cs : List Check)
    → Makes s s1 t three (item_value_rows (f.CastTo kind) (at s a).rows) (length (at s a).rows)
    → Stages site (length (at s looped).rows + length (at s a).rows) s1 s2 (at s looped).rows (strict_marks kind (at s looped).rows (at s a).rows) cs
    → CallLifts docs s s2 site (CastTo kind false) looped (a ∷ []) t
strict_cast_call docs s s1 s2 site kind looped a t cs m st =
    stages_one docs s s1 s2 site (CastTo kind false) looped a t cs (strict_marks kind (at s looped).rows (at s a).rows) [] (tests kind) refl ((omega arith, tt), (tt, tt)) (refl, (refl, tt)) _ _ _ m st
    (λ N l w. (omega arith, l)) (cast_items kind false) (λ h i. refl) (cast_fault kind)
    (λ its h asc sl sa. (
      marks_of_some (other_counts o.One (at s looped).rows (at s a).rows) (count_tests o.One h) its _ asc sl (count_marks its h _ _ asc sl sa o.One),
      (marks_fail (f.CastTo kind) c.FORG0001 h its _ asc sa, tt),
    ))
    (λ its h asc sl sa. tt)
    (λ its h asc sl sa tree rooted calm.
    same-trans (same-map out (same-flat (with_cast kind) sa))
    (same-of (ap (map out) (flat-flat (with_cast kind) (λ i. item_rows i.number 1 (h i)) its)
    ∙ map-flat out (λ i. flat_map (with_cast kind) (item_rows i.number 1 (h i))) its
    ∙ flat-all _ _ its (all_mono _ _ (λ i (e : fault_in (cast_items kind false (h i)) ≡ None). cast_value kind i.number (h i) e) its calm))))
