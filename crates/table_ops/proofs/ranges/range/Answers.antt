use Rattle.std.proofs.Common.{◌∙◌, ◌^◌, sym, ap, map, length, List}
use Rattle.xq_base.specs.declared.item.Item.TheVariants as i
use Rattle.table_ops.proofs.Selecting.{few_cells, cells_many}
use Rattle.table_ops.proofs.RangeLaws.{range_within, range_few, range_high, range_whole}
use Rattle.table_ops.proofs.ranges.range.Goals as goal

pub integers_of-requires : goal.integers_of-requires
integers_of-requires c = record {
  few = few_cells (2 ^ 32) c.args.input.now.cols c.args.low c.args.input.now.rows c.cells.result.now c.cells.ensures c.requires.few;
  as_many = ap (λ (z : List _). length z) c.cells.ensures ∙ cells_many c.args.input.now.cols c.args.low c.args.input.now.rows ∙ sym (ap (λ (z : List _). length z) c.cells-2.ensures ∙ cells_many c.args.input.now.cols c.args.high c.args.input.now.rows);
}

pub gather-requires : goal.gather-requires
gather-requires c =
    range_within c.args.input.now c.args.low c.args.high c.args.col c.cells.result.now c.cells-2.result.now c.in_ok-cells.cells.items c.in_ok-pairs.pairs.items c.deref-3.result.now c.cells.ensures c.cells-2.ensures c.in_ok-pairs.ensures
    (c.deref-3.ensures.value ∙ c.in_ok-places.ensures ∙ ap (map (λ p. p.0)) c.deref.ensures.value) (c.in_ok-cells.ensures ∙ ap (map (λ p. i.Int p.1)) c.deref-2.ensures.value)

pub beside-requires : goal.beside-requires
beside-requires c = record {
  few = range_few c.args.input.now c.args.low c.args.high c.args.col c.cells.result.now c.cells-2.result.now c.in_ok-cells.cells.items c.in_ok-pairs.pairs.items c.deref-3.result.now c.cells.ensures c.cells-2.ensures c.in_ok-pairs.ensures
      (c.deref-3.ensures.value ∙ c.in_ok-places.ensures ∙ ap (map (λ p. p.0)) c.deref.ensures.value) (c.in_ok-cells.ensures ∙ ap (map (λ p. i.Int p.1)) c.deref-2.ensures.value)
      c.in_ok-rows.rows c.in_ok-added.added c.in_ok-rows.ensures c.in_ok-added.ensures c.requires.few_cols;
  as_high = range_high c.args.input.now c.args.low c.args.high c.args.col c.cells.result.now c.cells-2.result.now c.in_ok-cells.cells.items c.in_ok-pairs.pairs.items c.deref-3.result.now c.cells.ensures c.cells-2.ensures c.in_ok-pairs.ensures
      (c.deref-3.ensures.value ∙ c.in_ok-places.ensures ∙ ap (map (λ p. p.0)) c.deref.ensures.value) (c.in_ok-cells.ensures ∙ ap (map (λ p. i.Int p.1)) c.deref-2.ensures.value)
      c.in_ok-rows.rows c.in_ok-added.added c.in_ok-rows.ensures c.in_ok-added.ensures;
}

pub returns : goal.returns
returns c =
    range_whole c.args.input.now c.args.low c.args.high c.args.col c.cells.result.now c.cells-2.result.now c.in_ok-cells.cells.items c.in_ok-pairs.pairs.items c.deref-3.result.now c.cells.ensures c.cells-2.ensures c.in_ok-pairs.ensures
    (c.deref-3.ensures.value ∙ c.in_ok-places.ensures ∙ ap (map (λ p. p.0)) c.deref.ensures.value) (c.in_ok-cells.ensures ∙ ap (map (λ p. i.Int p.1)) c.deref-2.ensures.value)
    c.in_ok-rows.rows c.in_ok-added.added c.in_ok-rows.ensures c.in_ok-added.ensures c.beside.result c.beside.ensures
