use Rattle.std.proofs.Common.{◌≡◌, ◌∷◌, [], length, map, sym, subst, true, IfOk}
use Rattle.doc_table.specs.Stores.{Holdings}
use Rattle.plan_dag.specs.declared.op.Op.TheVariants as o
use Rattle.plan_dag.specs.Schema.{fits_over, part_cols}
use Rattle.table_ops.specs.Results.{Makes, constant_given}
use Rattle.table_ops.specs.Standing.{RowsGiven}
use Rattle.table_ops.proofs.AggregateLaws.{if_ok_on}
use Rattle.table_ops.proofs.ApplyLaws.{unit_made, empty_made, project_made, attach_made, select_made, distinct_made, rownum_made, count_made, range_made}
use Rattle.table_ops.proofs.Combining.{whole}
use Rattle.table_ops.proofs.FitLaws.{fitting, there, rest_there, short, keys_there, part_there}
use Rattle.table_ops.proofs.applying.make_of_one.Goals as goal

pub returns-in-Unit : goal.returns-in-Unit
returns-in-Unit c =
    subst (λ z. IfOk c.unit.result (λ t. (h : Holdings) → RowsGiven c.args.pool.now h c.args.left.now.rows → Makes c.args.pool.now h z c.args.left.now c.args.right.now c.args.pool.now t)) (sym c.in-Unit.is)
    (if_ok_on c.unit.result _ (λ t. (h : Holdings) → RowsGiven c.args.pool.now h c.args.left.now.rows → Makes c.args.pool.now h (o.Unit c.in-Unit.col) c.args.left.now c.args.right.now c.args.pool.now t) (λ h g. unit_made c.args.pool.now h c.args.left.now c.args.right.now c.in-Unit.col) c.unit.ensures)

pub returns-in-Empty : goal.returns-in-Empty
returns-in-Empty c =
    subst (λ z. IfOk c.new.result (λ t. (h : Holdings) → RowsGiven c.args.pool.now h c.args.left.now.rows → Makes c.args.pool.now h z c.args.left.now c.args.right.now c.args.pool.now t)) (sym c.in-Empty.is)
    (if_ok_on c.new.result _ (λ t. (h : Holdings) → RowsGiven c.args.pool.now h c.args.left.now.rows → Makes c.args.pool.now h (o.Empty c.in-Empty.cols) c.args.left.now c.args.right.now c.args.pool.now t)
    (λ h g. subst (λ z. Makes c.args.pool.now h (o.Empty c.in-Empty.cols) c.args.left.now c.args.right.now c.args.pool.now (whole z [])) (sym c.as_slice.ensures.same) (empty_made c.args.pool.now h c.args.left.now c.args.right.now c.in-Empty.cols)) c.new.ensures)

pub project-requires : goal.project-requires
project-requires c = (fitting (o.Project c.in-Project.input c.in-Project.pairs) c.args.left.now.cols c.args.right.now.cols (subst (λ z. fits_over z c.args.left.now.cols c.args.right.now.cols ≡ true) c.in-Project.is c.requires.fits)).first

pub returns-in-Project : goal.returns-in-Project
returns-in-Project c =
    subst (λ z. IfOk c.project.result (λ t. (h : Holdings) → RowsGiven c.args.pool.now h c.args.left.now.rows → Makes c.args.pool.now h z c.args.left.now c.args.right.now c.args.pool.now t)) (sym c.in-Project.is)
    (if_ok_on c.project.result _ (λ t. (h : Holdings) → RowsGiven c.args.pool.now h c.args.left.now.rows → Makes c.args.pool.now h (o.Project c.in-Project.input c.in-Project.pairs) c.args.left.now c.args.right.now c.args.pool.now t) (λ h g. project_made c.args.pool.now h c.args.left.now c.args.right.now g c.in-Project.input c.in-Project.pairs) c.project.ensures)

pub attach-requires : goal.attach-requires
attach-requires c = short c.args.left.now.cols c.in-Attach.col (fitting (o.Attach c.in-Attach.input c.in-Attach.col c.in-Attach.value) c.args.left.now.cols c.args.right.now.cols (subst (λ z. fits_over z c.args.left.now.cols c.args.right.now.cols ≡ true) c.in-Attach.is c.requires.fits)).few

pub returns-in-Attach : goal.returns-in-Attach
returns-in-Attach c =
    subst (λ z. IfOk c.attach.result (λ t. (h : Holdings) → RowsGiven c.args.pool.now h c.args.left.now.rows → Makes c.args.pool.now h z c.args.left.now c.args.right.now c.args.pool.now t)) (sym c.in-Attach.is)
    (if_ok_on c.attach.result _ (λ t. (h : Holdings) → RowsGiven c.args.pool.now h c.args.left.now.rows → Makes c.args.pool.now h (o.Attach c.in-Attach.input c.in-Attach.col c.in-Attach.value) c.args.left.now c.args.right.now c.args.pool.now t) (λ h g. attach_made c.args.pool.now h c.args.left.now c.args.right.now g c.in-Attach.input c.in-Attach.col c.in-Attach.value (subst (λ z. constant_given (length c.args.pool.now) z ≡ true) c.in-Attach.is c.requires.constant)) c.attach.ensures)

pub select-requires-clause-there : goal.select-requires-clause-there
select-requires-clause-there c = there c.args.left.now.cols c.in-Select.col ([]) (fitting (o.Select c.in-Select.input c.in-Select.col) c.args.left.now.cols c.args.right.now.cols (subst (λ z. fits_over z c.args.left.now.cols c.args.right.now.cols ≡ true) c.in-Select.is c.requires.fits)).first

pub returns-in-Select : goal.returns-in-Select
returns-in-Select c =
    subst (λ z. IfOk c.select.result (λ t. (h : Holdings) → RowsGiven c.args.pool.now h c.args.left.now.rows → Makes c.args.pool.now h z c.args.left.now c.args.right.now c.args.pool.now t)) (sym c.in-Select.is)
    (if_ok_on c.select.result _ (λ t. (h : Holdings) → RowsGiven c.args.pool.now h c.args.left.now.rows → Makes c.args.pool.now h (o.Select c.in-Select.input c.in-Select.col) c.args.left.now c.args.right.now c.args.pool.now t) (λ h g. select_made c.args.pool.now h c.args.left.now c.args.right.now g c.in-Select.input c.in-Select.col) c.select.ensures)

pub distinct-requires-clause-there : goal.distinct-requires-clause-there
distinct-requires-clause-there c = (fitting (o.Distinct c.in-Distinct.input c.in-Distinct.cols) c.args.left.now.cols c.args.right.now.cols (subst (λ z. fits_over z c.args.left.now.cols c.args.right.now.cols ≡ true) c.in-Distinct.is c.requires.fits)).first

pub returns-in-Distinct : goal.returns-in-Distinct
returns-in-Distinct c =
    subst (λ z. IfOk c.distinct.result (λ t. (h : Holdings) → RowsGiven c.args.pool.now h c.args.left.now.rows → Makes c.args.pool.now h z c.args.left.now c.args.right.now c.args.pool.now t)) (sym c.in-Distinct.is)
    (if_ok_on c.distinct.result _ (λ t. (h : Holdings) → RowsGiven c.args.pool.now h c.args.left.now.rows → Makes c.args.pool.now h (o.Distinct c.in-Distinct.input c.in-Distinct.cols) c.args.left.now c.args.right.now c.args.pool.now t) (λ h g. distinct_made c.args.pool.now h c.args.left.now c.args.right.now g c.in-Distinct.input c.in-Distinct.cols) c.distinct.ensures)

pub rownum-requires-clause-few_cols : goal.rownum-requires-clause-few_cols
rownum-requires-clause-few_cols c = short c.args.left.now.cols c.in-Rownum.col (fitting (o.Rownum c.in-Rownum.input c.in-Rownum.col c.in-Rownum.keys c.in-Rownum.part) c.args.left.now.cols c.args.right.now.cols (subst (λ z. fits_over z c.args.left.now.cols c.args.right.now.cols ≡ true) c.in-Rownum.is c.requires.fits)).few

pub rownum-requires-clause-keys : goal.rownum-requires-clause-keys
rownum-requires-clause-keys c = keys_there c.args.left.now.cols (map (λ k. k.col) c.in-Rownum.keys) (part_cols c.in-Rownum.part) (fitting (o.Rownum c.in-Rownum.input c.in-Rownum.col c.in-Rownum.keys c.in-Rownum.part) c.args.left.now.cols c.args.right.now.cols (subst (λ z. fits_over z c.args.left.now.cols c.args.right.now.cols ≡ true) c.in-Rownum.is c.requires.fits)).first

pub rownum-requires-clause-part : goal.rownum-requires-clause-part
rownum-requires-clause-part c = part_there c.args.left.now.cols (map (λ k. k.col) c.in-Rownum.keys) c.in-Rownum.part (fitting (o.Rownum c.in-Rownum.input c.in-Rownum.col c.in-Rownum.keys c.in-Rownum.part) c.args.left.now.cols c.args.right.now.cols (subst (λ z. fits_over z c.args.left.now.cols c.args.right.now.cols ≡ true) c.in-Rownum.is c.requires.fits)).first

pub returns-in-Rownum : goal.returns-in-Rownum
returns-in-Rownum c =
    subst (λ z. IfOk c.rownum.result (λ t. (h : Holdings) → RowsGiven c.args.pool.now h c.args.left.now.rows → Makes c.args.pool.now h z c.args.left.now c.args.right.now c.args.pool.now t)) (sym c.in-Rownum.is)
    (if_ok_on c.rownum.result _ (λ t. (h : Holdings) → RowsGiven c.args.pool.now h c.args.left.now.rows → Makes c.args.pool.now h (o.Rownum c.in-Rownum.input c.in-Rownum.col c.in-Rownum.keys c.in-Rownum.part) c.args.left.now c.args.right.now c.args.pool.now t) (λ h g. rownum_made c.args.pool.now h c.args.left.now c.args.right.now g c.in-Rownum.input c.in-Rownum.col c.in-Rownum.keys c.in-Rownum.part) c.rownum.ensures)

pub count-requires-clause-there : goal.count-requires-clause-there
count-requires-clause-there c = there c.args.left.now.cols c.in-Count.group ([]) (fitting (o.Count c.in-Count.input c.in-Count.group c.in-Count.col) c.args.left.now.cols c.args.right.now.cols (subst (λ z. fits_over z c.args.left.now.cols c.args.right.now.cols ≡ true) c.in-Count.is c.requires.fits)).first

pub returns-in-Count : goal.returns-in-Count
returns-in-Count c =
    subst (λ z. IfOk c.count.result (λ t. (h : Holdings) → RowsGiven c.args.pool.now h c.args.left.now.rows → Makes c.args.pool.now h z c.args.left.now c.args.right.now c.args.pool.now t)) (sym c.in-Count.is)
    (if_ok_on c.count.result _ (λ t. (h : Holdings) → RowsGiven c.args.pool.now h c.args.left.now.rows → Makes c.args.pool.now h (o.Count c.in-Count.input c.in-Count.group c.in-Count.col) c.args.left.now c.args.right.now c.args.pool.now t) (λ h g. count_made c.args.pool.now h c.args.left.now c.args.right.now g c.in-Count.input c.in-Count.group c.in-Count.col) c.count.ensures)

pub range-requires-clause-low : goal.range-requires-clause-low
range-requires-clause-low c = there c.args.left.now.cols c.in-Range.low (c.in-Range.high ∷ []) (fitting (o.Range c.in-Range.input c.in-Range.low c.in-Range.high c.in-Range.col) c.args.left.now.cols c.args.right.now.cols (subst (λ z. fits_over z c.args.left.now.cols c.args.right.now.cols ≡ true) c.in-Range.is c.requires.fits)).first

pub range-requires-clause-high : goal.range-requires-clause-high
range-requires-clause-high c = there c.args.left.now.cols c.in-Range.high ([]) (rest_there c.args.left.now.cols c.in-Range.low (c.in-Range.high ∷ []) (fitting (o.Range c.in-Range.input c.in-Range.low c.in-Range.high c.in-Range.col) c.args.left.now.cols c.args.right.now.cols (subst (λ z. fits_over z c.args.left.now.cols c.args.right.now.cols ≡ true) c.in-Range.is c.requires.fits)).first)

pub range-requires-clause-few_cols : goal.range-requires-clause-few_cols
range-requires-clause-few_cols c = short c.args.left.now.cols c.in-Range.col (fitting (o.Range c.in-Range.input c.in-Range.low c.in-Range.high c.in-Range.col) c.args.left.now.cols c.args.right.now.cols (subst (λ z. fits_over z c.args.left.now.cols c.args.right.now.cols ≡ true) c.in-Range.is c.requires.fits)).few

pub returns-in-Range : goal.returns-in-Range
returns-in-Range c =
    subst (λ z. IfOk c.range.result (λ t. (h : Holdings) → RowsGiven c.args.pool.now h c.args.left.now.rows → Makes c.args.pool.now h z c.args.left.now c.args.right.now c.args.pool.now t)) (sym c.in-Range.is)
    (if_ok_on c.range.result _ (λ t. (h : Holdings) → RowsGiven c.args.pool.now h c.args.left.now.rows → Makes c.args.pool.now h (o.Range c.in-Range.input c.in-Range.low c.in-Range.high c.in-Range.col) c.args.left.now c.args.right.now c.args.pool.now t) (λ h g. range_made c.args.pool.now h c.args.left.now c.args.right.now g c.in-Range.input c.in-Range.low c.in-Range.high c.in-Range.col) c.range.ensures)
