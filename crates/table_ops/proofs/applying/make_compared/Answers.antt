use Rattle.std.proofs.Common.{◌≡◌, ◌∷◌, [], sym, subst, true, IfOk}
use Rattle.doc_table.specs.Stores.{Holdings}
use Rattle.plan_dag.specs.declared.op.Op.TheVariants as o
use Rattle.plan_dag.specs.Schema.{fits_over}
use Rattle.table_ops.specs.Results.{Makes}
use Rattle.table_ops.specs.Standing.{RowsGiven}
use Rattle.table_ops.proofs.AggregateLaws.{if_ok_on}
use Rattle.table_ops.proofs.ApplyLaws.{exists_made, fails_made}
use Rattle.table_ops.proofs.FitLaws.{fitting, there, rest_there}
use Rattle.table_ops.proofs.applying.make_compared.Goals as goal

pub compare_rows-requires-clause-left : goal.compare_rows-requires-clause-left
compare_rows-requires-clause-left c = there c.args.left.now.cols c.in-ExistsCompare.left_group (c.in-ExistsCompare.left_item ∷ []) (fitting (o.ExistsCompare c.in-ExistsCompare.left c.in-ExistsCompare.right c.in-ExistsCompare.op c.in-ExistsCompare.left_group c.in-ExistsCompare.left_item c.in-ExistsCompare.right_group c.in-ExistsCompare.right_item) c.args.left.now.cols c.args.right.now.cols (subst (λ z. fits_over z c.args.left.now.cols c.args.right.now.cols ≡ true) c.in-ExistsCompare.is c.requires.fits)).first

pub compare_rows-requires-clause-left_value : goal.compare_rows-requires-clause-left_value
compare_rows-requires-clause-left_value c = there c.args.left.now.cols c.in-ExistsCompare.left_item ([]) (rest_there c.args.left.now.cols c.in-ExistsCompare.left_group (c.in-ExistsCompare.left_item ∷ []) (fitting (o.ExistsCompare c.in-ExistsCompare.left c.in-ExistsCompare.right c.in-ExistsCompare.op c.in-ExistsCompare.left_group c.in-ExistsCompare.left_item c.in-ExistsCompare.right_group c.in-ExistsCompare.right_item) c.args.left.now.cols c.args.right.now.cols (subst (λ z. fits_over z c.args.left.now.cols c.args.right.now.cols ≡ true) c.in-ExistsCompare.is c.requires.fits)).first)

pub compare_rows-requires-clause-right : goal.compare_rows-requires-clause-right
compare_rows-requires-clause-right c = there c.args.right.now.cols c.in-ExistsCompare.right_group (c.in-ExistsCompare.right_item ∷ []) (fitting (o.ExistsCompare c.in-ExistsCompare.left c.in-ExistsCompare.right c.in-ExistsCompare.op c.in-ExistsCompare.left_group c.in-ExistsCompare.left_item c.in-ExistsCompare.right_group c.in-ExistsCompare.right_item) c.args.left.now.cols c.args.right.now.cols (subst (λ z. fits_over z c.args.left.now.cols c.args.right.now.cols ≡ true) c.in-ExistsCompare.is c.requires.fits)).second

pub compare_rows-requires-clause-right_value : goal.compare_rows-requires-clause-right_value
compare_rows-requires-clause-right_value c = there c.args.right.now.cols c.in-ExistsCompare.right_item ([]) (rest_there c.args.right.now.cols c.in-ExistsCompare.right_group (c.in-ExistsCompare.right_item ∷ []) (fitting (o.ExistsCompare c.in-ExistsCompare.left c.in-ExistsCompare.right c.in-ExistsCompare.op c.in-ExistsCompare.left_group c.in-ExistsCompare.left_item c.in-ExistsCompare.right_group c.in-ExistsCompare.right_item) c.args.left.now.cols c.args.right.now.cols (subst (λ z. fits_over z c.args.left.now.cols c.args.right.now.cols ≡ true) c.in-ExistsCompare.is c.requires.fits)).second)

pub compare_rows-requires-in-CompareFails-clause-left : goal.compare_rows-requires-in-CompareFails-clause-left
compare_rows-requires-in-CompareFails-clause-left c = there c.args.left.now.cols c.in-CompareFails.left_group (c.in-CompareFails.left_item ∷ []) (fitting (o.CompareFails c.in-CompareFails.left c.in-CompareFails.right c.in-CompareFails.op c.in-CompareFails.code c.in-CompareFails.left_group c.in-CompareFails.left_item c.in-CompareFails.right_group c.in-CompareFails.right_item) c.args.left.now.cols c.args.right.now.cols (subst (λ z. fits_over z c.args.left.now.cols c.args.right.now.cols ≡ true) c.in-CompareFails.is c.requires.fits)).first

pub compare_rows-requires-in-CompareFails-clause-left_value : goal.compare_rows-requires-in-CompareFails-clause-left_value
compare_rows-requires-in-CompareFails-clause-left_value c = there c.args.left.now.cols c.in-CompareFails.left_item ([]) (rest_there c.args.left.now.cols c.in-CompareFails.left_group (c.in-CompareFails.left_item ∷ []) (fitting (o.CompareFails c.in-CompareFails.left c.in-CompareFails.right c.in-CompareFails.op c.in-CompareFails.code c.in-CompareFails.left_group c.in-CompareFails.left_item c.in-CompareFails.right_group c.in-CompareFails.right_item) c.args.left.now.cols c.args.right.now.cols (subst (λ z. fits_over z c.args.left.now.cols c.args.right.now.cols ≡ true) c.in-CompareFails.is c.requires.fits)).first)

pub compare_rows-requires-in-CompareFails-clause-right : goal.compare_rows-requires-in-CompareFails-clause-right
compare_rows-requires-in-CompareFails-clause-right c = there c.args.right.now.cols c.in-CompareFails.right_group (c.in-CompareFails.right_item ∷ []) (fitting (o.CompareFails c.in-CompareFails.left c.in-CompareFails.right c.in-CompareFails.op c.in-CompareFails.code c.in-CompareFails.left_group c.in-CompareFails.left_item c.in-CompareFails.right_group c.in-CompareFails.right_item) c.args.left.now.cols c.args.right.now.cols (subst (λ z. fits_over z c.args.left.now.cols c.args.right.now.cols ≡ true) c.in-CompareFails.is c.requires.fits)).second

pub compare_rows-requires-in-CompareFails-clause-right_value : goal.compare_rows-requires-in-CompareFails-clause-right_value
compare_rows-requires-in-CompareFails-clause-right_value c = there c.args.right.now.cols c.in-CompareFails.right_item ([]) (rest_there c.args.right.now.cols c.in-CompareFails.right_group (c.in-CompareFails.right_item ∷ []) (fitting (o.CompareFails c.in-CompareFails.left c.in-CompareFails.right c.in-CompareFails.op c.in-CompareFails.code c.in-CompareFails.left_group c.in-CompareFails.left_item c.in-CompareFails.right_group c.in-CompareFails.right_item) c.args.left.now.cols c.args.right.now.cols (subst (λ z. fits_over z c.args.left.now.cols c.args.right.now.cols ≡ true) c.in-CompareFails.is c.requires.fits)).second)

pub returns-in-ExistsCompare : goal.returns-in-ExistsCompare
returns-in-ExistsCompare c =
    subst (λ z. IfOk c.compare_rows.result (λ t. (h : Holdings) → RowsGiven c.args.pool.now h c.args.left.now.rows → RowsGiven c.args.pool.now h c.args.right.now.rows → Makes c.args.pool.now h z c.args.left.now c.args.right.now c.args.pool.now t)) (sym c.in-ExistsCompare.is)
    (if_ok_on c.compare_rows.result _ (λ t. (h : Holdings) → RowsGiven c.args.pool.now h c.args.left.now.rows → RowsGiven c.args.pool.now h c.args.right.now.rows → Makes c.args.pool.now h (o.ExistsCompare c.in-ExistsCompare.left c.in-ExistsCompare.right c.in-ExistsCompare.op c.in-ExistsCompare.left_group c.in-ExistsCompare.left_item c.in-ExistsCompare.right_group c.in-ExistsCompare.right_item) c.args.left.now c.args.right.now c.args.pool.now t) (λ h g k. exists_made c.args.pool.now h c.args.left.now c.args.right.now g k c.in-ExistsCompare.left c.in-ExistsCompare.right c.in-ExistsCompare.op c.in-ExistsCompare.left_group c.in-ExistsCompare.left_item c.in-ExistsCompare.right_group c.in-ExistsCompare.right_item) c.compare_rows.ensures)

pub returns-in-CompareFails : goal.returns-in-CompareFails
returns-in-CompareFails c =
    subst (λ z. IfOk c.compare_rows-in-CompareFails.result (λ t. (h : Holdings) → RowsGiven c.args.pool.now h c.args.left.now.rows → RowsGiven c.args.pool.now h c.args.right.now.rows → Makes c.args.pool.now h z c.args.left.now c.args.right.now c.args.pool.now t)) (sym c.in-CompareFails.is)
    (if_ok_on c.compare_rows-in-CompareFails.result _ (λ t. (h : Holdings) → RowsGiven c.args.pool.now h c.args.left.now.rows → RowsGiven c.args.pool.now h c.args.right.now.rows → Makes c.args.pool.now h (o.CompareFails c.in-CompareFails.left c.in-CompareFails.right c.in-CompareFails.op c.in-CompareFails.code c.in-CompareFails.left_group c.in-CompareFails.left_item c.in-CompareFails.right_group c.in-CompareFails.right_item) c.args.left.now c.args.right.now c.args.pool.now t) (λ h g k. fails_made c.args.pool.now h c.args.left.now c.args.right.now g k c.in-CompareFails.left c.in-CompareFails.right c.in-CompareFails.op c.in-CompareFails.code c.in-CompareFails.left_group c.in-CompareFails.left_item c.in-CompareFails.right_group c.in-CompareFails.right_item) c.compare_rows-in-CompareFails.ensures)
