use Rattle.std.proofs.Common.{◌∙◌, ◌^◌}
use Rattle.table_ops.proofs.CountedLaws.{join_counted}
use Rattle.table_ops.proofs.Selecting.{few_cells}
use Rattle.table_ops.proofs.counting.count_join.Goals as goal

pub count_pairs-requires : goal.count_pairs-requires
count_pairs-requires c = record {
  index = few_cells (2 ^ 32) c.args.right.now.cols c.args.right_col c.args.right.now.rows c.in_ok-index.index (c.in_ok-index.ensures ∙ c.cells.ensures) c.requires.right_few;
  cells = few_cells (2 ^ 32) c.args.left.now.cols c.args.left_col c.args.left.now.rows c.cells-2.result.now c.cells-2.ensures c.requires.left_few;
}

pub returns : goal.returns
returns c = join_counted c.args.left.now c.args.right.now c.args.left_col c.args.right_col c.in_ok-index.index c.cells-2.result.now c.count_pairs.result (c.in_ok-index.ensures ∙ c.cells.ensures) c.cells-2.ensures c.count_pairs.ensures
