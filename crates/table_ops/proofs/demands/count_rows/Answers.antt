use Rattle.std.proofs.Common.{◌≡◌, ◌+◌, ◌∷◌, [], length, sym, subst, true, IfOk}
use Rattle.plan_dag.specs.declared.op.Op.TheVariants as o
use Rattle.plan_dag.specs.Meaning.{cell_or}
use Rattle.plan_dag.specs.Rows.{range_rows}
use Rattle.plan_dag.specs.Schema.{fits_over}
use Rattle.table_ops.specs.Columns.{no_cell}
use Rattle.table_ops.specs.Demands.{HasRows}
use Rattle.table_ops.specs.Held.{kept}
use Rattle.table_ops.proofs.CellMoves.{rows_of_given}
use Rattle.table_ops.proofs.DemandLaws.{counted_rows, if_ok_many, unit_many, empty_many, project_many, attach_many, rownum_many, union_many, select_many, range_many, distinct_many, count_many, join_many, difference_many}
use Rattle.table_ops.proofs.FitLaws.{fitting, there, rest_there}
use Rattle.table_ops.proofs.demands.count_rows.Goals as goal

pub returns-in-Unit-clause-rows : goal.returns-in-Unit-clause-rows
returns-in-Unit-clause-rows c = subst (λ z. HasRows c.args.pool.now c.args.store.now z c.args.left.now c.args.right.now 1) (sym c.in-Unit.is) (unit_many c.args.pool.now c.args.store.now c.args.left.now c.args.right.now c.in-Unit.col)

pub returns-in-Empty-clause-rows : goal.returns-in-Empty-clause-rows
returns-in-Empty-clause-rows c = subst (λ z. HasRows c.args.pool.now c.args.store.now z c.args.left.now c.args.right.now 0) (sym c.in-Empty.is) (empty_many c.args.pool.now c.args.store.now c.args.left.now c.args.right.now c.in-Empty.cols)

pub returns-in-Project-clause-rows : goal.returns-in-Project-clause-rows
returns-in-Project-clause-rows c = subst (λ z. HasRows c.args.pool.now c.args.store.now c.args.operator c.args.left.now c.args.right.now z) (sym c.height.ensures) (subst (λ z. HasRows c.args.pool.now c.args.store.now z c.args.left.now c.args.right.now (length c.args.left.now.rows)) (sym c.in-Project.is) (project_many c.args.pool.now c.args.store.now c.args.left.now c.args.right.now c.in-Project.input c.in-Project.pairs))

pub returns-in-Attach-clause-rows : goal.returns-in-Attach-clause-rows
returns-in-Attach-clause-rows c = subst (λ z. HasRows c.args.pool.now c.args.store.now c.args.operator c.args.left.now c.args.right.now z) (sym c.height-in-Attach.ensures) (subst (λ z. HasRows c.args.pool.now c.args.store.now z c.args.left.now c.args.right.now (length c.args.left.now.rows)) (sym c.in-Attach.is) (attach_many c.args.pool.now c.args.store.now c.args.left.now c.args.right.now c.in-Attach.input c.in-Attach.col c.in-Attach.value))

pub returns-in-Rownum-clause-rows : goal.returns-in-Rownum-clause-rows
returns-in-Rownum-clause-rows c = subst (λ z. HasRows c.args.pool.now c.args.store.now c.args.operator c.args.left.now c.args.right.now z) (sym c.height-in-Rownum.ensures) (subst (λ z. HasRows c.args.pool.now c.args.store.now z c.args.left.now c.args.right.now (length c.args.left.now.rows)) (sym c.in-Rownum.is) (rownum_many c.args.pool.now c.args.store.now c.args.left.now c.args.right.now c.in-Rownum.input c.in-Rownum.col c.in-Rownum.keys c.in-Rownum.part))

pub returns-in-Union-clause-rows : goal.returns-in-Union-clause-rows
returns-in-Union-clause-rows c = subst (λ z. HasRows c.args.pool.now c.args.store.now c.args.operator c.args.left.now c.args.right.now z) (λ i. sym c.height-in-Union.ensures i + sym c.height-in-Union-2.ensures i) (subst (λ z. HasRows c.args.pool.now c.args.store.now z c.args.left.now c.args.right.now (length c.args.left.now.rows + length c.args.right.now.rows)) (sym c.in-Union.is) (union_many c.args.pool.now c.args.store.now c.args.left.now c.args.right.now c.in-Union.left c.in-Union.right))

pub select-requires-clause-there : goal.select-requires-clause-there
select-requires-clause-there c = there c.args.left.now.cols c.in-Select.col ([]) (fitting (o.Select c.in-Select.input c.in-Select.col) c.args.left.now.cols c.args.right.now.cols (subst (λ z. fits_over z c.args.left.now.cols c.args.right.now.cols ≡ true) c.in-Select.is c.requires.fits)).first

pub returns-in-Select-clause-rows : goal.returns-in-Select-clause-rows
returns-in-Select-clause-rows c = subst (λ z. IfOk c.counted.result (λ n. HasRows c.args.pool.now c.args.store.now z c.args.left.now c.args.right.now n)) (sym c.in-Select.is) (counted_rows c.select.result c.counted.result _ (λ n. HasRows c.args.pool.now c.args.store.now (o.Select c.in-Select.input c.in-Select.col) c.args.left.now c.args.right.now n) c.counted.ensures c.select.ensures (select_many c.args.pool.now c.args.store.now c.args.left.now c.args.right.now c.requires.left_rows c.in-Select.input c.in-Select.col))

pub count_range-requires-clause-low : goal.count_range-requires-clause-low
count_range-requires-clause-low c = there c.args.left.now.cols c.in-Range.low (c.in-Range.high ∷ []) (fitting (o.Range c.in-Range.input c.in-Range.low c.in-Range.high c.in-Range.col) c.args.left.now.cols c.args.right.now.cols (subst (λ z. fits_over z c.args.left.now.cols c.args.right.now.cols ≡ true) c.in-Range.is c.requires.fits)).first

pub count_range-requires-clause-high : goal.count_range-requires-clause-high
count_range-requires-clause-high c = there c.args.left.now.cols c.in-Range.high ([]) (rest_there c.args.left.now.cols c.in-Range.low (c.in-Range.high ∷ []) (fitting (o.Range c.in-Range.input c.in-Range.low c.in-Range.high c.in-Range.col) c.args.left.now.cols c.args.right.now.cols (subst (λ z. fits_over z c.args.left.now.cols c.args.right.now.cols ≡ true) c.in-Range.is c.requires.fits)).first)

pub returns-in-Range-clause-rows : goal.returns-in-Range-clause-rows
returns-in-Range-clause-rows c =
    subst (λ z. HasRows c.args.pool.now c.args.store.now c.args.operator c.args.left.now c.args.right.now z) (sym c.count_range.ensures)
    (subst (λ z. HasRows c.args.pool.now c.args.store.now z c.args.left.now c.args.right.now (length (range_rows kept (cell_or no_cell c.args.left.now.cols c.in-Range.low) (cell_or no_cell c.args.left.now.cols c.in-Range.high) c.args.left.now.rows))) (sym c.in-Range.is)
    (range_many c.args.pool.now c.args.store.now c.args.left.now c.args.right.now c.requires.left_rows c.in-Range.input c.in-Range.low c.in-Range.high c.in-Range.col))

pub distinct-requires-clause-there : goal.distinct-requires-clause-there
distinct-requires-clause-there c = (fitting (o.Distinct c.in-Distinct.input c.in-Distinct.cols) c.args.left.now.cols c.args.right.now.cols (subst (λ z. fits_over z c.args.left.now.cols c.args.right.now.cols ≡ true) c.in-Distinct.is c.requires.fits)).first

pub returns-in-Distinct-clause-rows : goal.returns-in-Distinct-clause-rows
returns-in-Distinct-clause-rows c = subst (λ z. IfOk c.counted-in-Distinct.result (λ n. HasRows c.args.pool.now c.args.store.now z c.args.left.now c.args.right.now n)) (sym c.in-Distinct.is) (counted_rows c.distinct.result c.counted-in-Distinct.result _ (λ n. HasRows c.args.pool.now c.args.store.now (o.Distinct c.in-Distinct.input c.in-Distinct.cols) c.args.left.now c.args.right.now n) c.counted-in-Distinct.ensures c.distinct.ensures (distinct_many c.args.pool.now c.args.store.now c.args.left.now c.args.right.now c.requires.left_rows c.in-Distinct.input c.in-Distinct.cols))

pub count-requires-clause-there : goal.count-requires-clause-there
count-requires-clause-there c = there c.args.left.now.cols c.in-Count.group ([]) (fitting (o.Count c.in-Count.input c.in-Count.group c.in-Count.col) c.args.left.now.cols c.args.right.now.cols (subst (λ z. fits_over z c.args.left.now.cols c.args.right.now.cols ≡ true) c.in-Count.is c.requires.fits)).first

pub returns-in-Count-clause-rows : goal.returns-in-Count-clause-rows
returns-in-Count-clause-rows c = subst (λ z. IfOk c.counted-in-Count.result (λ n. HasRows c.args.pool.now c.args.store.now z c.args.left.now c.args.right.now n)) (sym c.in-Count.is) (counted_rows c.count.result c.counted-in-Count.result _ (λ n. HasRows c.args.pool.now c.args.store.now (o.Count c.in-Count.input c.in-Count.group c.in-Count.col) c.args.left.now c.args.right.now n) c.counted-in-Count.ensures c.count.ensures (count_many c.args.pool.now c.args.store.now c.args.left.now c.args.right.now c.requires.left_rows c.in-Count.input c.in-Count.group c.in-Count.col))

pub count_join-requires-clause-left : goal.count_join-requires-clause-left
count_join-requires-clause-left c = there c.args.left.now.cols c.in-Join.left_col ([]) (fitting (o.Join c.in-Join.left c.in-Join.right c.in-Join.left_col c.in-Join.right_col) c.args.left.now.cols c.args.right.now.cols (subst (λ z. fits_over z c.args.left.now.cols c.args.right.now.cols ≡ true) c.in-Join.is c.requires.fits)).first

pub count_join-requires-clause-right : goal.count_join-requires-clause-right
count_join-requires-clause-right c = there c.args.right.now.cols c.in-Join.right_col ([]) (fitting (o.Join c.in-Join.left c.in-Join.right c.in-Join.left_col c.in-Join.right_col) c.args.left.now.cols c.args.right.now.cols (subst (λ z. fits_over z c.args.left.now.cols c.args.right.now.cols ≡ true) c.in-Join.is c.requires.fits)).second

pub returns-in-Join-clause-rows : goal.returns-in-Join-clause-rows
returns-in-Join-clause-rows c = subst (λ z. IfOk c.count_join.result (λ n. HasRows c.args.pool.now c.args.store.now z c.args.left.now c.args.right.now n)) (sym c.in-Join.is) (if_ok_many c.count_join.result _ (λ n. HasRows c.args.pool.now c.args.store.now (o.Join c.in-Join.left c.in-Join.right c.in-Join.left_col c.in-Join.right_col) c.args.left.now c.args.right.now n) c.count_join.ensures (join_many c.args.pool.now c.args.store.now c.args.left.now c.args.right.now c.requires.left_rows c.requires.right_rows c.in-Join.left c.in-Join.right c.in-Join.left_col c.in-Join.right_col))

pub difference-requires-clause-left : goal.difference-requires-clause-left
difference-requires-clause-left c = there c.args.left.now.cols c.in-Difference.left_col ([]) (fitting (o.Difference c.in-Difference.left c.in-Difference.right c.in-Difference.left_col c.in-Difference.right_col) c.args.left.now.cols c.args.right.now.cols (subst (λ z. fits_over z c.args.left.now.cols c.args.right.now.cols ≡ true) c.in-Difference.is c.requires.fits)).first

pub difference-requires-clause-right : goal.difference-requires-clause-right
difference-requires-clause-right c = there c.args.right.now.cols c.in-Difference.right_col ([]) (fitting (o.Difference c.in-Difference.left c.in-Difference.right c.in-Difference.left_col c.in-Difference.right_col) c.args.left.now.cols c.args.right.now.cols (subst (λ z. fits_over z c.args.left.now.cols c.args.right.now.cols ≡ true) c.in-Difference.is c.requires.fits)).second

pub returns-in-Difference-clause-rows : goal.returns-in-Difference-clause-rows
returns-in-Difference-clause-rows c = subst (λ z. IfOk c.counted-in-Difference.result (λ n. HasRows c.args.pool.now c.args.store.now z c.args.left.now c.args.right.now n)) (sym c.in-Difference.is) (counted_rows c.difference.result c.counted-in-Difference.result _ (λ n. HasRows c.args.pool.now c.args.store.now (o.Difference c.in-Difference.left c.in-Difference.right c.in-Difference.left_col c.in-Difference.right_col) c.args.left.now c.args.right.now n) c.counted-in-Difference.ensures c.difference.ensures (difference_many c.args.pool.now c.args.store.now c.args.left.now c.args.right.now c.requires.left_rows c.requires.right_rows c.in-Difference.left c.in-Difference.right c.in-Difference.left_col c.in-Difference.right_col))

pub count_compared-requires-clause-left_given : goal.count_compared-requires-clause-left_given
count_compared-requires-clause-left_given c = rows_of_given c.args.pool.now c.args.store.now c.args.left.now.rows c.requires.left_rows

pub count_compared-requires-clause-right_given : goal.count_compared-requires-clause-right_given
count_compared-requires-clause-right_given c = rows_of_given c.args.pool.now c.args.store.now c.args.right.now.rows c.requires.right_rows
