use Rattle.std.proofs.Common.{◌≡◌, ◌∙◌, ◌<◌, ◌^◌, length, ap, sym, subst, arith}
use Rattle.xq_base.specs.declared.item.Item.{Item}
use Rattle.doc_table.specs.StoredItems.{meanings}
use Rattle.plan_dag.specs.ItemRules.{Cell}
use Rattle.plan_dag.specs.Meaning.{Table}
use Rattle.plan_dag.specs.Schema.{fits_over}
use Rattle.table_ops.specs.Demands.{op_rows}
use Rattle.table_ops.specs.Standing.{RowsGiven}
use Rattle.table_bench.proofs.Rows.{kernel_fits, rows_few, rows_given, long_map}
use Rattle.table_bench.proofs.run.rows_of.Goals as goal

pub apply-requires-clause-fits : goal.apply-requires-clause-fits
apply-requires-clause-fits c = (λ i. fits_over (c.op_of.ensures i) (c.requires.left i).cols (c.requires.right i).cols) ∙ kernel_fits c.args.kernel

pub apply-requires-clause-left_few : goal.apply-requires-clause-left_few
apply-requires-clause-left_few c = rows_few _ c.args.many c.args.left.now c.requires.left (omega (arith, c.ranges.many.fits))

pub apply-requires-clause-right_few : goal.apply-requires-clause-right_few
apply-requires-clause-right_few c = rows_few _ c.args.many c.args.right.now c.requires.right (omega (arith, c.ranges.many.fits))

pub apply-requires-clause-left_rows : goal.apply-requires-clause-left_rows
apply-requires-clause-left_rows c = subst (λ (z : Table Item). RowsGiven c.new-pool.result c.new-store.result z.rows) (sym c.requires.left) (rows_given c.new-pool.result c.new-store.result c.args.many)

pub apply-requires-clause-right_rows : goal.apply-requires-clause-right_rows
apply-requires-clause-right_rows c = subst (λ (z : Table Item). RowsGiven c.new-pool.result c.new-store.result z.rows) (sym c.requires.right) (rows_given c.new-pool.result c.new-store.result c.args.many)

pub returns : goal.returns
returns c =
    c.height.ensures
    ∙ sym (long_map (meanings c.apply.new.pool c.new-store.result) c.in_ok-table.table.rows)
    ∙ ap (λ (z : Table Cell). length z.rows) c.in_ok-table.ensures.rows
    ∙ (λ i. length (op_rows (c.new-pool.ensures i) (c.new-store.ensures i) (c.op_of.ensures i) (c.requires.left i) (c.requires.right i)))
