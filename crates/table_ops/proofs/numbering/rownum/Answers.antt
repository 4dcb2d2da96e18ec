use Rattle.std.proofs.Common.{◌∙◌, ap}
use Rattle.table_ops.specs.Sorting.{cell_numbers}
use Rattle.table_ops.proofs.RownumLaws.{rownum_high, rownum_whole}
use Rattle.table_ops.proofs.numbering.rownum.Goals as goal

pub beside-requires-clause-as_high : goal.beside-requires-clause-as_high
beside-requires-clause-as_high c =
    rownum_high c.args.pool.now c.args.input.now c.args.col c.args.part c.deref.result.now c.as_slice.result.now c.in_ok-numbers.numbers.items c.in_ok-added.added (c.deref.ensures.value ∙ c.in_ok-part.ensures) c.in_ok-numbers.ensures c.in_ok-added.ensures

pub returns : goal.returns
returns c =
    rownum_whole c.args.pool.now c.args.input.now c.args.col c.args.part c.deref.result.now c.args.keys.now c.in_ok-numbers.numbers.items c.in_ok-added.added (c.deref.ensures.value ∙ c.in_ok-part.ensures) (c.in_ok-numbers.ensures ∙ ap (λ z. cell_numbers c.args.pool.now c.args.input.now.cols c.deref.result.now z c.args.input.now.rows) c.as_slice.ensures.same) c.in_ok-added.ensures
    c.beside.result c.beside.ensures
