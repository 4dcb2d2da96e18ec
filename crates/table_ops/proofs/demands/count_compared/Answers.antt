use Rattle.std.proofs.Common.{◌≡◌, ◌∷◌, [], sym, subst, true, IfOk}
use Rattle.doc_table.specs.Stores.{Holdings}
use Rattle.plan_dag.specs.declared.op.Op.TheVariants as o
use Rattle.plan_dag.specs.Schema.{fits_over}
use Rattle.table_ops.specs.Demands.{HasRows}
use Rattle.table_ops.specs.Standing.{RowsGiven}
use Rattle.table_ops.proofs.DemandLaws.{counted_rows, exists_many, fails_many}
use Rattle.table_ops.proofs.FitLaws.{fitting, there, rest_there}
use Rattle.table_ops.proofs.demands.count_compared.Goals as goal

pub compare_rows-requires-clause-left : goal.compare_rows-requires-clause-left
compare_rows-requires-clause-left c = there c.args.left.now.cols c.in-ExistsCompare.left_group (c.in-ExistsCompare.left_item ∷ []) (fitting (o.ExistsCompare c.in-ExistsCompare.left c.in-ExistsCompare.right c.in-ExistsCompare.op c.in-ExistsCompare.left_group c.in-ExistsCompare.left_item c.in-ExistsCompare.right_group c.in-ExistsCompare.right_item) c.args.left.now.cols c.args.right.now.cols (subst (λ z. fits_over z c.args.left.now.cols c.args.right.now.cols ≡ true) c.in-ExistsCompare.is c.requires.fits)).first

pub compare_rows-requires-clause-left_value : goal.compare_rows-requires-clause-left_value
compare_rows-requires-clause-left_value c = there c.args.left.now.cols c.in-ExistsCompare.left_item ([]) (rest_there c.args.left.now.cols c.in-ExistsCompare.left_group (c.in-ExistsCompare.left_item ∷ []) (fitting (o.ExistsCompare c.in-ExistsCompare.left c.in-ExistsCompare.right c.in-ExistsCompare.op c.in-ExistsCompare.left_group c.in-ExistsCompare.left_item c.in-ExistsCompare.right_group c.in-ExistsCompare.right_item) c.args.left.now.cols c.args.right.now.cols (subst (λ z. fits_over z c.args.left.now.cols c.args.right.now.cols ≡ true) c.in-ExistsCompare.is c.requires.fits)).first)

pub compare_rows-requires-clause-right : goal.compare_rows-requires-clause-right
compare_rows-requires-clause-right c = there c.args.right.now.cols c.in-ExistsCompare.right_group (c.in-ExistsCompare.right_item ∷ []) (fitting (o.ExistsCompare c.in-ExistsCompare.left c.in-ExistsCompare.right c.in-ExistsCompare.op c.in-ExistsCompare.left_group c.in-ExistsCompare.left_item c.in-ExistsCompare.right_group c.in-ExistsCompare.right_item) c.args.left.now.cols c.args.right.now.cols (subst (λ z. fits_over z c.args.left.now.cols c.args.right.now.cols ≡ true) c.in-ExistsCompare.is c.requires.fits)).second

pub compare_rows-requires-clause-right_value : goal.compare_rows-requires-clause-right_value
compare_rows-requires-clause-right_value c = there c.args.right.now.cols c.in-ExistsCompare.right_item ([]) (rest_there c.args.right.now.cols c.in-ExistsCompare.right_group (c.in-ExistsCompare.right_item ∷ []) (fitting (o.ExistsCompare c.in-ExistsCompare.left c.in-ExistsCompare.right c.in-ExistsCompare.op c.in-ExistsCompare.left_group c.in-ExistsCompare.left_item c.in-ExistsCompare.right_group c.in-ExistsCompare.right_item) c.args.left.now.cols c.args.right.now.cols (subst (λ z. fits_over z c.args.left.now.cols c.args.right.now.cols ≡ true) c.in-ExistsCompare.is c.requires.fits)).second)

pub returns-in-ExistsCompare : goal.returns-in-ExistsCompare
returns-in-ExistsCompare c = subst (λ z. IfOk c.counted.result (λ n. (h : Holdings) → RowsGiven c.args.pool.now h c.args.left.now.rows → RowsGiven c.args.pool.now h c.args.right.now.rows → HasRows c.args.pool.now h z c.args.left.now c.args.right.now n)) (sym c.in-ExistsCompare.is) (counted_rows c.compare_rows.result c.counted.result _ (λ n. (h : Holdings) → RowsGiven c.args.pool.now h c.args.left.now.rows → RowsGiven c.args.pool.now h c.args.right.now.rows → HasRows c.args.pool.now h (o.ExistsCompare c.in-ExistsCompare.left c.in-ExistsCompare.right c.in-ExistsCompare.op c.in-ExistsCompare.left_group c.in-ExistsCompare.left_item c.in-ExistsCompare.right_group c.in-ExistsCompare.right_item) c.args.left.now c.args.right.now n) c.counted.ensures c.compare_rows.ensures (λ h g k. exists_many c.args.pool.now h c.args.left.now c.args.right.now g k c.in-ExistsCompare.left c.in-ExistsCompare.right c.in-ExistsCompare.op c.in-ExistsCompare.left_group c.in-ExistsCompare.left_item c.in-ExistsCompare.right_group c.in-ExistsCompare.right_item))

pub compare_rows-requires-in-CompareFails-clause-left : goal.compare_rows-requires-in-CompareFails-clause-left
compare_rows-requires-in-CompareFails-clause-left c = there c.args.left.now.cols c.in-CompareFails.left_group (c.in-CompareFails.left_item ∷ []) (fitting (o.CompareFails c.in-CompareFails.left c.in-CompareFails.right c.in-CompareFails.op c.in-CompareFails.code c.in-CompareFails.left_group c.in-CompareFails.left_item c.in-CompareFails.right_group c.in-CompareFails.right_item) c.args.left.now.cols c.args.right.now.cols (subst (λ z. fits_over z c.args.left.now.cols c.args.right.now.cols ≡ true) c.in-CompareFails.is c.requires.fits)).first

pub compare_rows-requires-in-CompareFails-clause-left_value : goal.compare_rows-requires-in-CompareFails-clause-left_value
compare_rows-requires-in-CompareFails-clause-left_value c = there c.args.left.now.cols c.in-CompareFails.left_item ([]) (rest_there c.args.left.now.cols c.in-CompareFails.left_group (c.in-CompareFails.left_item ∷ []) (fitting (o.CompareFails c.in-CompareFails.left c.in-CompareFails.right c.in-CompareFails.op c.in-CompareFails.code c.in-CompareFails.left_group c.in-CompareFails.left_item c.in-CompareFails.right_group c.in-CompareFails.right_item) c.args.left.now.cols c.args.right.now.cols (subst (λ z. fits_over z c.args.left.now.cols c.args.right.now.cols ≡ true) c.in-CompareFails.is c.requires.fits)).first)

pub compare_rows-requires-in-CompareFails-clause-right : goal.compare_rows-requires-in-CompareFails-clause-right
compare_rows-requires-in-CompareFails-clause-right c = there c.args.right.now.cols c.in-CompareFails.right_group (c.in-CompareFails.right_item ∷ []) (fitting (o.CompareFails c.in-CompareFails.left c.in-CompareFails.right c.in-CompareFails.op c.in-CompareFails.code c.in-CompareFails.left_group c.in-CompareFails.left_item c.in-CompareFails.right_group c.in-CompareFails.right_item) c.args.left.now.cols c.args.right.now.cols (subst (λ z. fits_over z c.args.left.now.cols c.args.right.now.cols ≡ true) c.in-CompareFails.is c.requires.fits)).second

pub compare_rows-requires-in-CompareFails-clause-right_value : goal.compare_rows-requires-in-CompareFails-clause-right_value
compare_rows-requires-in-CompareFails-clause-right_value c = there c.args.right.now.cols c.in-CompareFails.right_item ([]) (rest_there c.args.right.now.cols c.in-CompareFails.right_group (c.in-CompareFails.right_item ∷ []) (fitting (o.CompareFails c.in-CompareFails.left c.in-CompareFails.right c.in-CompareFails.op c.in-CompareFails.code c.in-CompareFails.left_group c.in-CompareFails.left_item c.in-CompareFails.right_group c.in-CompareFails.right_item) c.args.left.now.cols c.args.right.now.cols (subst (λ z. fits_over z c.args.left.now.cols c.args.right.now.cols ≡ true) c.in-CompareFails.is c.requires.fits)).second)

pub returns-in-CompareFails : goal.returns-in-CompareFails
returns-in-CompareFails c = subst (λ z. IfOk c.counted-in-CompareFails.result (λ n. (h : Holdings) → RowsGiven c.args.pool.now h c.args.left.now.rows → RowsGiven c.args.pool.now h c.args.right.now.rows → HasRows c.args.pool.now h z c.args.left.now c.args.right.now n)) (sym c.in-CompareFails.is) (counted_rows c.compare_rows-in-CompareFails.result c.counted-in-CompareFails.result _ (λ n. (h : Holdings) → RowsGiven c.args.pool.now h c.args.left.now.rows → RowsGiven c.args.pool.now h c.args.right.now.rows → HasRows c.args.pool.now h (o.CompareFails c.in-CompareFails.left c.in-CompareFails.right c.in-CompareFails.op c.in-CompareFails.code c.in-CompareFails.left_group c.in-CompareFails.left_item c.in-CompareFails.right_group c.in-CompareFails.right_item) c.args.left.now c.args.right.now n) c.counted-in-CompareFails.ensures c.compare_rows-in-CompareFails.ensures (λ h g k. fails_many c.args.pool.now h c.args.left.now c.args.right.now g k c.in-CompareFails.left c.in-CompareFails.right c.in-CompareFails.op c.in-CompareFails.code c.in-CompareFails.left_group c.in-CompareFails.left_item c.in-CompareFails.right_group c.in-CompareFails.right_item))
