use Rattle.std.proofs.Common.{◌∙◌, ◌^◌}
use Rattle.table_ops.proofs.Selecting.{few_cells}
use Rattle.table_ops.proofs.OperatorLaws.{difference_left, difference_whole}
use Rattle.table_ops.proofs.matching.difference.Goals as goal

pub unequal_places-requires : goal.unequal_places-requires
unequal_places-requires c = record {
  left = few_cells (2 ^ 32) c.args.left.now.cols c.args.left_col c.args.left.now.rows c.cells.result.now c.cells.ensures c.requires.left_few;
  right = few_cells (2 ^ 32) c.args.right.now.cols c.args.right_col c.args.right.now.rows c.cells-2.result.now c.cells-2.ensures c.requires.right_few;
}

pub gather-requires : goal.gather-requires
gather-requires c = difference_left c.args.left.now c.args.right.now c.args.left_col c.args.right_col c.deref.result.now c.cells.result.now c.cells-2.result.now (c.deref.ensures.value ∙ c.in_ok-places.ensures) c.cells.ensures c.cells-2.ensures

pub returns : goal.returns
returns c = difference_whole c.args.left.now c.args.right.now c.args.left_col c.args.right_col c.deref.result.now c.cells.result.now c.cells-2.result.now (c.deref.ensures.value ∙ c.in_ok-places.ensures) c.cells.ensures c.cells-2.ensures c.gather.result c.gather.ensures
