-- Calls that say whether an argument can be cast to a kind, from the rows of their operators.
use Rattle.std.proofs.Common.{◌≡◌, ◌+◌, ◌≤◌, Bool, true, false, cond, not, ◌||◌, List, [], ◌∷◌, ◌++◌, length, map, refl, sym, ap, ◌∙◌, ⊎_elim, arith, length-append}
use Rattle.std.proofs.Math.Bool.{or-false}
use Rattle.std.specs.List.{list_any}
use Rattle.std.proofs.Math.Nat.{max-le}
use Rattle.xq_base.specs.declared.code.Code.TheVariants as c
use Rattle.xq_base.specs.declared.fun.Fun.TheVariants as f
use Rattle.xq_base.specs.declared.fun.AtomKind.{AtomKind}
use Rattle.xq_base.specs.Answers.{Answer, Value, Fault as Refused}
use Rattle.doc_table.specs.Items.{BoolItem}
use Rattle.doc_table.specs.Values.{Items, atomized, cast_items}
use Rattle.doc_table.specs.NodeRules.{Docs}
use Rattle.plan_dag.specs.declared.op.OpId.{OpId}
use Rattle.plan_dag.specs.Cells.{code_in}
use Rattle.plan_dag.specs.ItemRules.{Cell, outcome_of}
use Rattle.plan_dag.specs.Rows.{code_eq, is_code}
use Rattle.plan_dag.specs.Meaning.{cells as cells_at}
use Rattle.core_meaning.specs.Expr.{Site, CastableTo}
use Rattle.core_meaning.specs.Rules.{is_value}
use Rattle.lift_laws.specs.Sums.{Ascends}
use Rattle.lift_laws.specs.Iterations.{Row, Iter, value_rows, loop_rows}
use Rattle.lift_laws.specs.States.{State, at, Makes, Holds, three, single}
use Rattle.lift_laws.specs.Shapes.{bare, less, any_rows, truth_rows}
use Rattle.lift_laws.specs.Stages.{unfit_rows, uncastable_rows, castable_most}
use Rattle.lift_laws.specs.Lifting.{CallLifts}
use Rattle.lift_laws.proofs.Multi.{same-length}
use Rattle.lift_laws.proofs.Sizes.{map_length, size_loop}
use Rattle.lift_laws.proofs.Marks.{Marks, marks_or, some, code_self}
use Rattle.lift_laws.proofs.Operands.{has_two, marks_second}
use Rattle.lift_laws.proofs.FunctionCases.{truth_call, none_named}
use Rattle.lift_laws.proofs.ItemCase.{OneOrCode, fails_at, marks_fail, filter_few, unfit_few, cast_one}

abbrev fails : AtomKind → Cell → Bool
fails kind v = fails_at (f.CastTo kind) c.FORG0001 v

-- a cast of one item gives a value where it doesn't fail
castable_at : (x : Answer Items) → OneOrCode (c.FORG0001 ∷ []) x → is_value x ≡ not (is_code c.FORG0001 (code_in (outcome_of x)))
castable_at (Value []) h = absurd h
castable_at (Value (w ∷ [])) h = refl
castable_at (Value (w ∷ u ∷ ws)) h = absurd h
castable_at (Refused d) h = ⊎_elim (λ q. sym (ap not (ap (code_eq c.FORG0001) q ∙ code_self c.FORG0001))) (λ k. absurd k) h

turned : (b : Bool) → not b ≡ cond b false true
turned true = refl
turned false = refl

one_castable : (kind : AtomKind) (v : Cell) → is_value (cast_items kind true (v ∷ [])) ≡ cond (fails kind v || false) false true
one_castable kind v = castable_at (cast_items kind true (v ∷ [])) (cast_one kind (atomized v)) ∙ turned (fails kind v) ∙ ap (λ b. cond b false true) (sym (or-false (fails kind v)))

-- the iterations whose argument can't be cast
abbrev uncastable : AtomKind → Bool → Items → Bool
uncastable kind true vs = has_two vs || list_any (fails kind) vs
uncastable kind false vs = (has_two vs || list_any (fails kind) vs) || not (some vs)

castable_is : (kind : AtomKind) (optional : Bool) (vs : Items) → is_value (cast_items kind optional vs) ≡ cond (uncastable kind optional vs) false true
castable_is kind true [] = refl
castable_is kind true (v ∷ []) = one_castable kind v
castable_is kind true (v ∷ u ∷ vs) = refl
castable_is kind false [] = refl
castable_is kind false (v ∷ []) = one_castable kind v ∙ ap (λ b. cond b false true) (sym (or-false (fails kind v || false)))
castable_is kind false (v ∷ u ∷ vs) = refl

uncastable_named : (kind : AtomKind) (optional : Bool) {s : State} (looped a : OpId) (its : List Iter) (g : Iter → List Cell) → Ascends (λ i. i.number) 0 its → Holds s looped single (loop_rows its) → Holds s a three (value_rows g its) → Marks (uncastable_rows kind optional (at s looped).rows (at s a).rows) (λ i. uncastable kind optional (g i)) its
uncastable_named kind true looped a its g asc hl ha = marks_or (marks_second g its _ asc ha.rows_are) (marks_fail (f.CastTo kind) c.FORG0001 g its _ asc ha.rows_are)
uncastable_named kind false looped a its g asc hl ha = marks_or (marks_or (marks_second g its _ asc ha.rows_are) (marks_fail (f.CastTo kind) c.FORG0001 g its _ asc ha.rows_are)) (none_named looped a its g asc hl ha)

less_few : (l b : List Row) → length (less l b) ≤ length l
less_few l b = filter_few _ l

uncastable_few : (kind : AtomKind) (optional : Bool) {s : State} (looped a : OpId) (its : List Iter) (g : Iter → List Cell) → Holds s looped single (loop_rows its) → Holds s a three (value_rows g its)
    → length (uncastable_rows kind optional (at s looped).rows (at s a).rows) ≤ length (at s looped).rows + length (at s looped).rows + length (at s a).rows
uncastable_few kind true {s = s} looped a its g hl ha =
    let x = unfit_few (f.CastTo kind) c.FORG0001 g its (at s a).rows ha.rows_are in
    let y = same-length hl.rows_are ∙ size_loop its in
    let r : length (unfit_rows (f.CastTo kind) c.FORG0001 (at s a).rows) ≤ length (at s looped).rows + length (at s looped).rows + length (at s a).rows = omega arith in
    r
uncastable_few kind false {s = s} looped a its g hl ha =
    let x = unfit_few (f.CastTo kind) c.FORG0001 g its (at s a).rows ha.rows_are in
    let y = same-length hl.rows_are ∙ size_loop its in
    let none = less (at s looped).rows (any_rows (at s a).rows) in
    let both = length-append (unfit_rows (f.CastTo kind) c.FORG0001 (at s a).rows) (map (cells_at bare single single) none) in
    let moved = map_length (cells_at bare single single) none in
    let z = less_few (at s looped).rows (any_rows (at s a).rows) in
    let r : length (unfit_rows (f.CastTo kind) c.FORG0001 (at s a).rows ++ map (cells_at bare single single) none) ≤ length (at s looped).rows + length (at s looped).rows + length (at s a).rows = omega arith in
    r

pub castable_call : (docs : Docs) {s s' : State} (site : Site) (kind : AtomKind) (optional : Bool) (looped a t : OpId)
    → Makes s s' t three (truth_rows false (at s looped).rows (uncastable_rows kind optional (at s looped).rows (at s a).rows)) (castable_most kind optional (at s looped).rows (at s a).rows)
    → CallLifts docs s s' site (CastableTo kind optional) looped (a ∷ []) t
castable_call docs site kind optional looped a t m =
    truth_call docs site (CastableTo kind optional) false looped a t _ (λ g i. uncastable kind optional (g i)) _ refl
    (λ its g asc hl ha. uncastable_named kind optional looped a its g asc hl ha)
    (λ N its g hl ha l. max-le l (let q = uncastable_few kind optional looped a its g hl ha in omega arith))
    (λ g i. ap (λ b. Value (BoolItem b ∷ [])) (castable_is kind optional (g i))) m
