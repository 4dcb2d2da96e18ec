use Rattle.std.proofs.Common.{◌∙◌, ◌^◌, ap, map}
use Rattle.table_ops.proofs.Selecting.{few_cells}
use Rattle.table_ops.proofs.OperatorLaws.{join_left, join_right, join_few, join_high, join_whole}
use Rattle.table_ops.proofs.matching.join.Goals as goal

pub equal_pairs-requires : goal.equal_pairs-requires
equal_pairs-requires c = record {
  left = few_cells (2 ^ 32) c.args.left.now.cols c.args.left_col c.args.left.now.rows c.cells.result.now c.cells.ensures c.requires.left_few;
  right = few_cells (2 ^ 32) c.args.right.now.cols c.args.right_col c.args.right.now.rows c.cells-2.result.now c.cells-2.ensures c.requires.right_few;
}

pub gather-requires : goal.gather-requires
gather-requires c =
    join_left c.args.left.now c.args.right.now c.args.left_col c.args.right_col c.deref-3.result.now c.in_ok-right_places.right_places.items c.cells.result.now c.cells-2.result.now c.in_ok-pairs.pairs.items
    (c.deref-3.ensures.value ∙ c.in_ok-left_places.ensures ∙ ap (map (λ p. p.0)) c.deref.ensures.value) (c.in_ok-right_places.ensures ∙ ap (map (λ p. p.1)) c.deref-2.ensures.value) c.in_ok-pairs.ensures c.cells.ensures c.cells-2.ensures

pub gather-requires-2 : goal.gather-requires-2
gather-requires-2 c =
    join_right c.args.left.now c.args.right.now c.args.left_col c.args.right_col c.deref-3.result.now c.deref-4.result.now c.cells.result.now c.cells-2.result.now c.in_ok-pairs.pairs.items
    (c.deref-3.ensures.value ∙ c.in_ok-left_places.ensures ∙ ap (map (λ p. p.0)) c.deref.ensures.value) (c.deref-4.ensures.value ∙ c.in_ok-right_places.ensures ∙ ap (map (λ p. p.1)) c.deref-2.ensures.value) c.in_ok-pairs.ensures c.cells.ensures c.cells-2.ensures

pub beside-requires : goal.beside-requires
beside-requires c = record {
  few = join_few c.args.left.now c.args.right.now c.args.left_col c.args.right_col c.deref-3.result.now c.deref-4.result.now c.cells.result.now c.cells-2.result.now c.in_ok-pairs.pairs.items
      (c.deref-3.ensures.value ∙ c.in_ok-left_places.ensures ∙ ap (map (λ p. p.0)) c.deref.ensures.value) (c.deref-4.ensures.value ∙ c.in_ok-right_places.ensures ∙ ap (map (λ p. p.1)) c.deref-2.ensures.value) c.in_ok-pairs.ensures c.cells.ensures c.cells-2.ensures
      c.in_ok-left_rows.left_rows c.in_ok-right_rows.right_rows c.in_ok-left_rows.ensures c.in_ok-right_rows.ensures c.requires.few;
  as_high = join_high c.args.left.now c.args.right.now c.args.left_col c.args.right_col c.deref-3.result.now c.deref-4.result.now c.cells.result.now c.cells-2.result.now c.in_ok-pairs.pairs.items
      (c.deref-3.ensures.value ∙ c.in_ok-left_places.ensures ∙ ap (map (λ p. p.0)) c.deref.ensures.value) (c.deref-4.ensures.value ∙ c.in_ok-right_places.ensures ∙ ap (map (λ p. p.1)) c.deref-2.ensures.value) c.in_ok-pairs.ensures c.cells.ensures c.cells-2.ensures
      c.in_ok-left_rows.left_rows c.in_ok-right_rows.right_rows c.in_ok-left_rows.ensures c.in_ok-right_rows.ensures;
}

pub returns : goal.returns
returns c =
    join_whole c.args.left.now c.args.right.now c.args.left_col c.args.right_col c.deref-3.result.now c.deref-4.result.now c.cells.result.now c.cells-2.result.now c.in_ok-pairs.pairs.items
    (c.deref-3.ensures.value ∙ c.in_ok-left_places.ensures ∙ ap (map (λ p. p.0)) c.deref.ensures.value) (c.deref-4.ensures.value ∙ c.in_ok-right_places.ensures ∙ ap (map (λ p. p.1)) c.deref-2.ensures.value) c.in_ok-pairs.ensures c.cells.ensures c.cells-2.ensures
    c.in_ok-left_rows.left_rows c.in_ok-right_rows.right_rows c.in_ok-left_rows.ensures c.in_ok-right_rows.ensures c.beside.result c.beside.ensures
