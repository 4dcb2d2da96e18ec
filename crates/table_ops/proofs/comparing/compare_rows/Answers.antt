use Rattle.std.proofs.Common.{◌≡◌, ◌∙◌, ◌^◌, [], true, length, sym, subst, ap, map}
use Rattle.std.specs.List.{list_all}
use Rattle.indexmap.specs.IndexSet.{insert_all}
use Rattle.xq_funs.specs.Answering.{text_given}
use Rattle.table_ops.specs.Columns.{cell_of}
use Rattle.table_ops.specs.Keys.{item_eq}
use Rattle.table_ops.proofs.PairLaws.{compared_whole, found_few}
use Rattle.table_ops.proofs.RownumLaws.{column_given}
use Rattle.table_ops.proofs.Selecting.{few_cells}
use Rattle.table_ops.proofs.comparing.compare_rows.Goals as goal

pub matching-requires-clause-values : goal.matching-requires-clause-values
matching-requires-clause-values c = subst (λ z. list_all (text_given (length c.args.pool.now)) z ≡ true) (sym c.cells-values.ensures) (column_given (length c.args.pool.now) c.args.left.now.cols c.args.sides.left_value c.args.left.now.rows c.requires.left_given)

pub matching-requires-clause-others : goal.matching-requires-clause-others
matching-requires-clause-others c = subst (λ z. list_all (text_given (length c.args.pool.now)) z ≡ true) (sym c.cells-others.ensures) (column_given (length c.args.pool.now) c.args.right.now.cols c.args.sides.right_value c.args.right.now.rows c.requires.right_given)

pub different-requires : goal.different-requires
different-requires c =
    found_few (2 ^ 32) c.args.pool.now c.args.wanted c.args.op c.cells-cells.result.now c.cells-values.result.now c.in_ok-index.index c.cells-others.result.now c.deref-2.result.now c.in_ok-places.places.items
    c.in_ok-places.ensures (c.deref-2.ensures.value ∙ c.in_ok-found.ensures ∙ ap (map (cell_of c.cells-cells.result.now)) c.deref.ensures.value)
    (few_cells (2 ^ 32) c.args.left.now.cols c.args.sides.left c.args.left.now.rows c.cells-cells.result.now c.cells-cells.ensures c.requires.left_few)

pub returns : goal.returns
returns c =
    compared_whole c.args.pool.now c.args.wanted c.args.op c.args.left.now c.args.right.now c.args.sides.left c.args.sides.left_value c.args.sides.right c.args.sides.right_value
    c.cells-cells.result.now c.cells-values.result.now c.in_ok-index.index c.cells-others.result.now c.in_ok-found.found.items c.in_ok-groups.groups.items c.in_ok-places.places.items c.single.result
    c.cells-cells.ensures c.cells-values.ensures (c.in_ok-index.ensures ∙ c.cells.ensures) c.cells-others.ensures c.in_ok-places.ensures
    (c.in_ok-found.ensures ∙ ap (map (cell_of c.cells-cells.result.now)) c.deref.ensures.value) (c.in_ok-groups.ensures ∙ ap (insert_all item_eq []) c.deref-2.ensures.value) c.single.ensures
