use Rattle.std.proofs.Common.{◌∙◌, ◌^◌, sym, ap, length, List}
use Rattle.table_ops.proofs.CountedLaws.{range_counted}
use Rattle.table_ops.proofs.Selecting.{few_cells, cells_many}
use Rattle.table_ops.proofs.counting.count_range.Goals as goal

pub count_ints-requires : goal.count_ints-requires
count_ints-requires c = record {
  few = few_cells (2 ^ 32) c.args.input.now.cols c.args.low c.args.input.now.rows c.cells.result.now c.cells.ensures c.requires.few;
  as_many = ap (λ (z : List _). length z) c.cells.ensures ∙ cells_many c.args.input.now.cols c.args.low c.args.input.now.rows ∙ sym (ap (λ (z : List _). length z) c.cells-2.ensures ∙ cells_many c.args.input.now.cols c.args.high c.args.input.now.rows);
}

pub returns : goal.returns
returns c = range_counted c.args.input.now c.args.low c.args.high c.cells.result.now c.cells-2.result.now c.count_ints.result c.cells.ensures c.cells-2.ensures c.count_ints.ensures
