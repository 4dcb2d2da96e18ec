use Rattle.std.proofs.Common.{◌<◌, ◌∙◌, ◌++◌, length, map, ap, arith}
use Rattle.xq_funs.proofs.Later.{trees_given_later, keeps_on}
use Rattle.table_ops.specs.Columns.{cells_at, row_at}
use Rattle.table_ops.proofs.MapLaws.{place_held, names_later, values_turn}
use Rattle.table_ops.proofs.mapping.values.Goals as goal

pub map_row-requires-clause-items : goal.map_row-requires-clause-items
map_row-requires-clause-items c =
    place_held c.args.pool.now c.loop-place.pool c.args.store.now c.args.input.now.cols c.args.cols.now c.args.input.now.rows c.loop-place.place (map (λ s. s.now) c.deref.result.now) c.loop-place.invariant.0 c.requires.trees c.requires.rows
    (ap (map (λ s. s.now)) c.deref.ensures.value ∙ c.in_ok-add_cells.ensures ∙ ap (λ z. map (λ s. s.now) z ++ map (λ d. cells_at c.args.input.now.cols d c.args.input.now.rows) c.args.cols.now) c.new-columns.ensures.items)

pub map_row-requires-clause-trees : goal.map_row-requires-clause-trees
map_row-requires-clause-trees c = trees_given_later c.args.pool.now c.loop-place.pool c.loop-place.invariant.0 c.args.store.now c.requires.trees

pub map_row-requires-clause-names : goal.map_row-requires-clause-names
map_row-requires-clause-names c = names_later c.args.pool.now c.loop-place.pool c.args.store.now c.loop-place.invariant.0 c.requires.trees c.requires.names

pub loop-place-preserved : goal.loop-place-preserved
loop-place-preserved c =
    let small : c.loop-place.place < length c.args.input.now.rows = omega (arith, c.loop-place-test.true, c.height-place-end.ensures) in (
      keeps_on c.args.pool.now c.loop-place.pool c.map_row.new.pool c.loop-place.invariant.0 c.map_row.ensures.keeps,
      values_turn c.args.pool.now c.loop-place.pool c.map_row.new.pool c.args.store.now c.args.fun c.args.input.now.cols c.args.cols.now c.args.input.now.rows c.loop-place.place (row_at (map (λ s. s.now) c.deref.result.now) c.loop-place.place)
          c.loop-place.found.items c.map_row.new.found.items c.loop-place.invariant.0 c.requires.trees c.requires.names c.requires.rows small
          (ap (λ z. row_at z c.loop-place.place) (ap (map (λ s. s.now)) c.deref.ensures.value ∙ c.in_ok-add_cells.ensures ∙ ap (λ z. map (λ s. s.now) z ++ map (λ d. cells_at c.args.input.now.cols d c.args.input.now.rows) c.args.cols.now) c.new-columns.ensures.items))
          c.in_ok-map_row.ensures.found c.loop-place.invariant.1,
      c.in_ok-map_row.ensures.given,
    )
