-- Calls of `data`, from the rows of their operators: a map over the items, at the positions where they stand.
use Rattle.std.proofs.Common.{◌≡◌, ℕ, ◌+◌, ◌≤◌, List, [], ◌∷◌, ◌++◌, length, map, refl, sym, ap, ◌∙◌, arith, None, Some}
use Rattle.std.specs.List.{flat_map}
use Rattle.xq_base.specs.declared.fun.Fun.TheVariants as f
use Rattle.doc_table.specs.Values.{item_of_atom, atomized}
use Rattle.doc_table.specs.NodeRules.{Docs}
use Rattle.plan_dag.specs.declared.op.OpId.{OpId}
use Rattle.plan_dag.specs.Cells.{given}
use Rattle.plan_dag.specs.ItemRules.{Cell}
use Rattle.plan_dag.specs.Meaning.{cells as cells_at}
use Rattle.core_meaning.specs.Expr.{Site, Apply}
use Rattle.core_meaning.specs.Meaning.{value_in}
use Rattle.core_meaning.specs.Work.{rule_work}
use Rattle.lift_laws.specs.Sums.{AllOf, Ascends, Same}
use Rattle.lift_laws.specs.Iterations.{Row, Iter, num, item_rows, value_rows, loop_rows}
use Rattle.lift_laws.specs.Bulk.{list_of}
use Rattle.lift_laws.specs.States.{State, at, Makes, Holds, HoldAll, three, single, column}
use Rattle.lift_laws.specs.Shapes.{bare, pair, pick, four, data_rows}
use Rattle.lift_laws.specs.Lifting.{CallLifts, call_answer, call_cost}
use Rattle.lift_laws.proofs.Multi.{same-of, same-trans, same-map, same-flat, same-length}
use Rattle.lift_laws.proofs.Picks.{all_each, flat-all, flat-flat, map-flat, map-map}
use Rattle.lift_laws.proofs.Sizes.{size_cells, total_most}
use Rattle.lift_laws.proofs.Marks.{fault_in}
use Rattle.lift_laws.proofs.FunctionCases.{quiet_call}

abbrev pub as_atom : Cell → Cell
as_atom v = item_of_atom (atomized v)

abbrev with_atom : Row → List Row
with_atom r = map (λ v. r ++ v ∷ []) (given (bare.value f.Atomize (cells_at bare three (column 2 ∷ []) r)))

abbrev out : Row → Row
out r = pick four (pair 0 0 ∷ pair 1 1 ∷ pair 2 3 ∷ []) r

atoms_of : (n k : ℕ) (vs : List Cell) → map out (flat_map with_atom (item_rows n k vs)) ≡ item_rows n k (map as_atom vs)
atoms_of n k [] = refl
atoms_of n k (v ∷ vs) = ap (λ l. (num n ∷ num k ∷ as_atom v ∷ []) ∷ l) (atoms_of n (k + 1) vs)

pub data_stands : (g : Iter → List Cell) (its : List Iter) (a : List Row) → Same a (value_rows g its) → Same (data_rows a) (value_rows (λ i. map as_atom (g i)) its)
data_stands g its a s =
    same-trans (same-map out (same-flat with_atom s))
    (same-of (ap (map out) (flat-flat with_atom (λ i. item_rows i.number 1 (g i)) its)
    ∙ map-flat out (λ i. flat_map with_atom (item_rows i.number 1 (g i))) its
    ∙ flat-all _ _ its (all_each _ (λ i. atoms_of i.number 1 (g i)) its)))

module _ (docs : Docs) {s s' : State} (site : Site) (looped a t : OpId) (m : Makes s s' t three (data_rows (at s a).rows) (length (at s a).rows)) where
  few : (N : ℕ) (its : List Iter) (gs : List (Iter → List Cell)) → Ascends (λ i. i.number) 0 its → Holds s looped single (loop_rows its) → HoldAll s (a ∷ []) gs its → call_cost docs site (Apply f.Data) gs its ≤ N → length (at s a).rows ≤ N
  few N its [] asc hl hp enough = absurd hp
  few N its (g ∷ []) asc hl hp enough =
      let y = same-length hp.0.rows_are ∙ size_cells g its in
      let w = total_most (λ i. length (g i)) (λ i. 1 + (length (g i) + 0) + length (list_of (value_in (call_answer docs site (Apply f.Data) (g ∷ []) i))) + rule_work (Apply f.Data) (Some (g i ∷ [])) (value_in (call_answer docs site (Apply f.Data) (g ∷ []) i))) its (λ i. omega arith) in
      omega arith
  few N its (g ∷ g' ∷ gs) asc hl hp enough = absurd hp.1

  calm : (gs : List (Iter → List Cell)) (its : List Iter) → HoldAll s (a ∷ []) gs its → AllOf (λ i. fault_in (call_answer docs site (Apply f.Data) gs i) ≡ None) its
  calm [] its hp = absurd hp
  calm (g ∷ []) its hp = all_each _ (λ i. refl) its
  calm (g ∷ g' ∷ gs) its hp = absurd hp.1

  stand : (its : List Iter) (gs : List (Iter → List Cell)) → Ascends (λ i. i.number) 0 its → Holds s looped single (loop_rows its) → HoldAll s (a ∷ []) gs its → Same (data_rows (at s a).rows) (value_rows (λ i. list_of (value_in (call_answer docs site (Apply f.Data) gs i))) its)
  stand its [] asc hl hp = absurd hp
  stand its (g ∷ []) asc hl hp =
      same-trans (data_stands g its _ hp.0.rows_are) (same-of (flat-all _ _ its (all_each _ (λ i. ap (item_rows i.number 1) (sym (map-map item_of_atom atomized (g i)))) its)))
  stand its (g ∷ g' ∷ gs) asc hl hp = absurd hp.1

  pub data_call : CallLifts docs s s' site (Apply f.Data) looped (a ∷ []) t
  data_call = quiet_call docs site (Apply f.Data) looped (a ∷ []) t _ _ m refl few calm stand
