-- Calls of `count`, from the rows of their operators: the counted iterations beside the loop, and 0 in the others.
use Rattle.std.proofs.Common.{◌≡◌, ℕ, ◌+◌, ◌≤◌, Bool, true, false, cond, not, List, [], ◌∷◌, ◌++◌, length, map, refl, sym, ap, ◌∙◌, arith, add-zero, Some, None, nat_eq}
use Rattle.std.proofs.Math.Bool.{and-true}
use Rattle.std.specs.List.{filter, flat_map}
use Rattle.xq_base.specs.declared.fun.Fun.TheVariants as f
use Rattle.doc_table.specs.NodeRules.{Docs}
use Rattle.plan_dag.specs.declared.op.OpId.{OpId}
use Rattle.plan_dag.specs.ItemRules.{Cell, cell_eq}
use Rattle.plan_dag.specs.Rows.{group_rows, rows_with}
use Rattle.plan_dag.specs.Meaning.{cell}
use Rattle.core_meaning.specs.Expr.{Site, Apply}
use Rattle.core_meaning.specs.Meaning.{value_in}
use Rattle.core_meaning.specs.Work.{rule_work}
use Rattle.lift_laws.specs.Sums.{total, bit, AllOf, Ascends, Same}
use Rattle.lift_laws.specs.Iterations.{Row, Iter, num, item_rows, value_rows, loop_rows}
use Rattle.lift_laws.specs.Bulk.{list_of}
use Rattle.lift_laws.specs.States.{State, at, Makes, Holds, HoldAll, three, single, column}
use Rattle.lift_laws.specs.Shapes.{bare, pair, columns, pick, any_rows, counted_rows, count_value_rows}
use Rattle.lift_laws.specs.Lifting.{CallLifts, call_answer, call_cost}
use Rattle.lift_laws.proofs.Numbers.{num_same}
use Rattle.lift_laws.proofs.Multi.{same-of, same-trans, same-map, same-length, total-ext, total-map, total-flat, total-keep, total-sum, length-total, length-filter}
use Rattle.lift_laws.proofs.Picks.{Picked, picks, all_each, flat-all, total-all}
use Rattle.lift_laws.proofs.Values.{all_two}
use Rattle.lift_laws.proofs.Sizes.{size_loop, size_cells, total_most}
use Rattle.lift_laws.proofs.Simple.{is_there, literal_stands, either_stands}
use Rattle.lift_laws.proofs.Marks.{some, unmarked_stands, fault_in}
use Rattle.lift_laws.proofs.Operands.{marks_any}
use Rattle.lift_laws.proofs.Firsts.{key, named, named_there, one_first}
use Rattle.lift_laws.proofs.FunctionCases.{quiet_call, some_items}

items_named : (n m k : ℕ) (vs : List Cell) → total (λ r. bit (cell_eq (num n) (key r))) (item_rows m k vs) ≡ cond (nat_eq n m) (length vs) 0
items_named n m k [] = elim (nat_eq n m) as (λ b. 0 ≡ cond {A = ℕ} b 0 0) [ true ↦ refl | false ↦ refl ]
items_named n m k (v ∷ vs) =
    ap (λ b. bit b + total (λ r. bit (cell_eq (num n) (key r))) (item_rows m (k + 1) vs)) (num_same n m)
    ∙ ap (λ t. bit (nat_eq n m) + t) (items_named n m (k + 1) vs)
    ∙ elim (nat_eq n m) as (λ b. bit b + cond b (length vs) 0 ≡ cond b (length (v ∷ vs)) 0) [ true ↦ omega arith | false ↦ refl ]

abbrev counted : (Iter → List Cell) → Iter → List Row
counted g i = cond (some (g i)) ((num i.number ∷ num i.number ∷ num (length (g i)) ∷ []) ∷ []) []

counted_stands : (g : Iter → List Cell) (its : List Iter) (l a : List Row) → Ascends (λ i. i.number) 0 its → Same l (loop_rows its) → Same a (value_rows g its) → Same (counted_rows l a) (flat_map (counted g) its)
counted_stands g its l a asc sl sa = record {
  at = λ w.
      let many = λ (v : Cell). length (rows_with bare key v a) in
      let table = map (λ r. key r ∷ num (many (key r)) ∷ []) (group_rows bare key a) in
      let moved = pick (columns (0 ∷ 1 ∷ [])) (pair 4 0 ∷ pair 5 1 ∷ []) in
      let right = λ (q : Row). cell bare (columns (4 ∷ 5 ∷ [])) (column 4) q in
      let each = λ (r : Row). map (λ q. r ++ q) (filter (λ q. cell_eq (cell bare single (column 0) r) (right q)) (map moved table)) in
      total-flat w each l
      ∙ sl.at (λ r. total w (each r))
      ∙ total-map (λ r. total w (each r)) (λ (i : Iter). num i.number ∷ []) its
      ∙ total-all _ _ its (all_two _ _ _ (λ i (h : Picked (λ (j : Iter). j.number) its i) (m : is_there (num i.number) (any_rows a) ≡ some (g i)).
      let w' = λ (v : Cell). w (num i.number ∷ v ∷ num (many v) ∷ []) in
      total-map w (λ q. (num i.number ∷ []) ++ q) (filter (λ q. cell_eq (num i.number) (right q)) (map moved table))
      ∙ total-keep (λ q. w ((num i.number ∷ []) ++ q)) (λ q. cell_eq (num i.number) (right q)) (map moved table)
      ∙ total-map (λ q. cond (cell_eq (num i.number) (right q)) (w ((num i.number ∷ []) ++ q)) 0) moved table
      ∙ total-map (λ q. cond (cell_eq (num i.number) (right (moved q))) (w ((num i.number ∷ []) ++ moved q)) 0) (λ r. key r ∷ num (many (key r)) ∷ []) (group_rows bare key a)
      ∙ one_first i.number w' [] a
      ∙ ap (λ b. cond b (w' (num i.number)) 0) (and-true (named i.number a) ∙ named_there i.number a ∙ m)
      ∙ ap (λ n. cond (some (g i)) (w (num i.number ∷ num i.number ∷ num n ∷ [])) 0)
      (length-filter (λ r. cell_eq (num i.number) (key r)) a
      ∙ sa.at (λ r. bit (cell_eq (num i.number) (key r)))
      ∙ total-flat (λ r. bit (cell_eq (num i.number) (key r))) (λ j. item_rows j.number 1 (g j)) its
      ∙ total-ext _ _ its (λ j. items_named i.number j.number 1 (g j))
      ∙ h (λ j. length (g j)))
      ∙ elim (some (g i)) as (λ b. cond b (w (num i.number ∷ num i.number ∷ num (length (g i)) ∷ [])) 0 ≡ total w (cond b ((num i.number ∷ num i.number ∷ num (length (g i)) ∷ []) ∷ []) [])) [ true ↦ sym (add-zero _) | false ↦ refl ]) its (picks (λ i. i.number) 0 its asc) (marks_any g its a asc sa).each)
      ∙ sym (total-flat w (counted g) its);
}

counted_few : (g : Iter → List Cell) (its : List Iter) → length (flat_map (counted g) its) ≤ length its
counted_few g its =
    let a = length-total (flat_map (counted g) its) ∙ total-flat (λ r. 1) (counted g) its in
    let b = total_most (λ i. total (λ (r : Row). 1) (counted g i)) (λ i. 1) its (λ i. one (some (g i)) i) in
    let d = length-total its in
    omega arith
  where
    one : (b : Bool) (i : Iter) → total (λ (r : Row). 1) (cond b ((num i.number ∷ num i.number ∷ num (length (g i)) ∷ []) ∷ []) []) ≤ 1
    one true i = omega arith
    one false i = omega arith

count_stands : (g : Iter → List Cell) (its : List Iter) (l a : List Row) → Ascends (λ i. i.number) 0 its → Same l (loop_rows its) → Same a (value_rows g its) → Same (count_value_rows l a) (value_rows (λ i. num (length (g i)) ∷ []) its)
count_stands g its l a asc sl sa =
    let out = pick (columns (0 ∷ 4 ∷ 5 ∷ 1 ∷ [])) (pair 0 0 ∷ pair 1 1 ∷ pair 2 5 ∷ []) in
    let p = λ (i : Iter). some (g i) in
    let front = same-trans (same-map out (same-map (λ r. r ++ num 1 ∷ []) (counted_stands g its l a asc sl sa))) (same-of (kept its)) in
    let back = literal_stands (num 0) (filter (λ i. not (p i)) its) _ (unmarked_stands p its l _ sl (marks_any g its a asc sa)) in
    same-trans (either_stands p (λ i. num (length (g i)) ∷ []) (λ i. num 0 ∷ []) its _ _ front back)
    (same-of (flat-all _ _ its (all_each _ (λ i. ap (item_rows i.number 1) (zero_none (g i))) its)))
  where
    zero_none : (vs : List Cell) → cond (some vs) (num (length vs) ∷ []) (num 0 ∷ []) ≡ num (length vs) ∷ []
    zero_none [] = refl
    zero_none (v ∷ vs) = ap (λ b. cond b (num (length (v ∷ vs)) ∷ []) (num 0 ∷ [])) (sym (some_items (v ∷ vs)))

    kept : (js : List Iter) → map (pick (columns (0 ∷ 4 ∷ 5 ∷ 1 ∷ [])) (pair 0 0 ∷ pair 1 1 ∷ pair 2 5 ∷ [])) (map (λ r. r ++ num 1 ∷ []) (flat_map (counted g) js)) ≡ value_rows (λ i. num (length (g i)) ∷ []) (filter (λ i. some (g i)) js)
    kept [] = refl
    kept (j ∷ js) =
        let r = kept js in
        elim (some (g j)) as (λ b. map (pick (columns (0 ∷ 4 ∷ 5 ∷ 1 ∷ [])) (pair 0 0 ∷ pair 1 1 ∷ pair 2 5 ∷ [])) (map (λ r. r ++ num 1 ∷ []) (cond b ((num j.number ∷ num j.number ∷ num (length (g j)) ∷ []) ∷ []) [] ++ flat_map (counted g) js)) ≡ value_rows (λ i. num (length (g i)) ∷ []) (cond b (j ∷ filter (λ i. some (g i)) js) (filter (λ i. some (g i)) js))) [
          | true ↦ ap (λ l. (num j.number ∷ num 1 ∷ num (length (g j)) ∷ []) ∷ l) r
          | false ↦ r
        ]

module _ (docs : Docs) {s s' : State} (site : Site) (looped a t : OpId)
    (m : Makes s s' t three (count_value_rows (at s looped).rows (at s a).rows) (length (at s looped).rows + length (at s a).rows + length (counted_rows (at s looped).rows (at s a).rows))) where
  few : (N : ℕ) (its : List Iter) (gs : List (Iter → List Cell)) → Ascends (λ i. i.number) 0 its → Holds s looped single (loop_rows its) → HoldAll s (a ∷ []) gs its → call_cost docs site (Apply f.Count) gs its ≤ N → length (at s looped).rows + length (at s a).rows + length (counted_rows (at s looped).rows (at s a).rows) ≤ N
  few N its [] asc hl hp enough = absurd hp
  few N its (g ∷ []) asc hl hp enough =
      let x = same-length hl.rows_are ∙ size_loop its in
      let y = same-length hp.0.rows_are ∙ size_cells g its in
      let z = same-length (counted_stands g its _ _ asc hl.rows_are hp.0.rows_are) in
      let k = counted_few g its in
      let u = length-total its in
      let p = total-sum (λ (i : Iter). 1) (λ i. 1 + length (g i)) its in
      let q = total-sum (λ (i : Iter). 1) (λ i. length (g i)) its in
      let w = total_most (λ i. 1 + (1 + length (g i))) (λ i. 1 + (length (g i) + 0) + length (list_of (value_in (call_answer docs site (Apply f.Count) (g ∷ []) i))) + rule_work (Apply f.Count) (Some (g i ∷ [])) (value_in (call_answer docs site (Apply f.Count) (g ∷ []) i))) its (λ i. omega arith) in
      omega arith
  few N its (g ∷ g' ∷ gs) asc hl hp enough = absurd hp.1

  calm : (gs : List (Iter → List Cell)) (its : List Iter) → HoldAll s (a ∷ []) gs its → AllOf (λ i. fault_in (call_answer docs site (Apply f.Count) gs i) ≡ None) its
  calm [] its hp = absurd hp
  calm (g ∷ []) its hp = all_each _ (λ i. refl) its
  calm (g ∷ g' ∷ gs) its hp = absurd hp.1

  stand : (its : List Iter) (gs : List (Iter → List Cell)) → Ascends (λ i. i.number) 0 its → Holds s looped single (loop_rows its) → HoldAll s (a ∷ []) gs its → Same (count_value_rows (at s looped).rows (at s a).rows) (value_rows (λ i. list_of (value_in (call_answer docs site (Apply f.Count) gs i))) its)
  stand its [] asc hl hp = absurd hp
  stand its (g ∷ []) asc hl hp = count_stands g its _ _ asc hl.rows_are hp.0.rows_are
  stand its (g ∷ g' ∷ gs) asc hl hp = absurd hp.1

  pub count_call : CallLifts docs s s' site (Apply f.Count) looped (a ∷ []) t
  count_call = quiet_call docs site (Apply f.Count) looped (a ∷ []) t _ _ m refl few calm stand
