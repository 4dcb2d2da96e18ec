use Rattle.std.proofs.Common.{◌≡◌, [], sym, subst, true, IfOk}
use Rattle.doc_table.specs.Stores.{Holdings}
use Rattle.plan_dag.specs.declared.op.Op.TheVariants as o
use Rattle.plan_dag.specs.Schema.{fits_over}
use Rattle.table_ops.specs.Results.{Makes}
use Rattle.table_ops.specs.Standing.{RowsGiven}
use Rattle.table_ops.proofs.AggregateLaws.{if_ok_on}
use Rattle.table_ops.proofs.ApplyLaws.{join_made, union_made, difference_made}
use Rattle.table_ops.proofs.FitLaws.{fitting, there, both_short, union_there}
use Rattle.table_ops.proofs.applying.make_of_two.Goals as goal

pub join-requires-clause-few : goal.join-requires-clause-few
join-requires-clause-few c = both_short c.args.left.now.cols c.args.right.now.cols (fitting (o.Join c.in-Join.left c.in-Join.right c.in-Join.left_col c.in-Join.right_col) c.args.left.now.cols c.args.right.now.cols (subst (λ z. fits_over z c.args.left.now.cols c.args.right.now.cols ≡ true) c.in-Join.is c.requires.fits)).few

pub join-requires-clause-left : goal.join-requires-clause-left
join-requires-clause-left c = there c.args.left.now.cols c.in-Join.left_col ([]) (fitting (o.Join c.in-Join.left c.in-Join.right c.in-Join.left_col c.in-Join.right_col) c.args.left.now.cols c.args.right.now.cols (subst (λ z. fits_over z c.args.left.now.cols c.args.right.now.cols ≡ true) c.in-Join.is c.requires.fits)).first

pub join-requires-clause-right : goal.join-requires-clause-right
join-requires-clause-right c = there c.args.right.now.cols c.in-Join.right_col ([]) (fitting (o.Join c.in-Join.left c.in-Join.right c.in-Join.left_col c.in-Join.right_col) c.args.left.now.cols c.args.right.now.cols (subst (λ z. fits_over z c.args.left.now.cols c.args.right.now.cols ≡ true) c.in-Join.is c.requires.fits)).second

pub returns-in-Join : goal.returns-in-Join
returns-in-Join c =
    subst (λ z. IfOk c.join.result (λ t. (h : Holdings) → RowsGiven c.args.pool.now h c.args.left.now.rows → RowsGiven c.args.pool.now h c.args.right.now.rows → Makes c.args.pool.now h z c.args.left.now c.args.right.now c.args.pool.now t)) (sym c.in-Join.is)
    (if_ok_on c.join.result _ (λ t. (h : Holdings) → RowsGiven c.args.pool.now h c.args.left.now.rows → RowsGiven c.args.pool.now h c.args.right.now.rows → Makes c.args.pool.now h (o.Join c.in-Join.left c.in-Join.right c.in-Join.left_col c.in-Join.right_col) c.args.left.now c.args.right.now c.args.pool.now t) (λ h g k. join_made c.args.pool.now h c.args.left.now c.args.right.now g k c.in-Join.left c.in-Join.right c.in-Join.left_col c.in-Join.right_col) c.join.ensures)

pub difference-requires-clause-left : goal.difference-requires-clause-left
difference-requires-clause-left c = there c.args.left.now.cols c.in-Difference.left_col ([]) (fitting (o.Difference c.in-Difference.left c.in-Difference.right c.in-Difference.left_col c.in-Difference.right_col) c.args.left.now.cols c.args.right.now.cols (subst (λ z. fits_over z c.args.left.now.cols c.args.right.now.cols ≡ true) c.in-Difference.is c.requires.fits)).first

pub difference-requires-clause-right : goal.difference-requires-clause-right
difference-requires-clause-right c = there c.args.right.now.cols c.in-Difference.right_col ([]) (fitting (o.Difference c.in-Difference.left c.in-Difference.right c.in-Difference.left_col c.in-Difference.right_col) c.args.left.now.cols c.args.right.now.cols (subst (λ z. fits_over z c.args.left.now.cols c.args.right.now.cols ≡ true) c.in-Difference.is c.requires.fits)).second

pub returns-in-Difference : goal.returns-in-Difference
returns-in-Difference c =
    subst (λ z. IfOk c.difference.result (λ t. (h : Holdings) → RowsGiven c.args.pool.now h c.args.left.now.rows → RowsGiven c.args.pool.now h c.args.right.now.rows → Makes c.args.pool.now h z c.args.left.now c.args.right.now c.args.pool.now t)) (sym c.in-Difference.is)
    (if_ok_on c.difference.result _ (λ t. (h : Holdings) → RowsGiven c.args.pool.now h c.args.left.now.rows → RowsGiven c.args.pool.now h c.args.right.now.rows → Makes c.args.pool.now h (o.Difference c.in-Difference.left c.in-Difference.right c.in-Difference.left_col c.in-Difference.right_col) c.args.left.now c.args.right.now c.args.pool.now t) (λ h g k. difference_made c.args.pool.now h c.args.left.now c.args.right.now g k c.in-Difference.left c.in-Difference.right c.in-Difference.left_col c.in-Difference.right_col) c.difference.ensures)

pub union-requires : goal.union-requires
union-requires c = union_there c.args.left.now.cols c.args.right.now.cols (fitting (o.Union c.in-Union.left c.in-Union.right) c.args.left.now.cols c.args.right.now.cols (subst (λ z. fits_over z c.args.left.now.cols c.args.right.now.cols ≡ true) c.in-Union.is c.requires.fits)).union

pub returns-in-Union : goal.returns-in-Union
returns-in-Union c =
    subst (λ z. IfOk c.union.result (λ t. (h : Holdings) → RowsGiven c.args.pool.now h c.args.left.now.rows → RowsGiven c.args.pool.now h c.args.right.now.rows → Makes c.args.pool.now h z c.args.left.now c.args.right.now c.args.pool.now t)) (sym c.in-Union.is)
    (if_ok_on c.union.result _ (λ t. (h : Holdings) → RowsGiven c.args.pool.now h c.args.left.now.rows → RowsGiven c.args.pool.now h c.args.right.now.rows → Makes c.args.pool.now h (o.Union c.in-Union.left c.in-Union.right) c.args.left.now c.args.right.now c.args.pool.now t) (λ h g k. union_made c.args.pool.now h c.args.left.now c.args.right.now g k c.in-Union.left c.in-Union.right) c.union.ensures)
