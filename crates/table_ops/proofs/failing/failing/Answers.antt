use Rattle.std.proofs.Common.{◌≡◌, ◌<◌, ◌∙◌, ◌++◌, ◌∷◌, [], cond, length, map, ap, arith, rules}
use Rattle.xq_funs.proofs.Later.{trees_given_later, keeps_on}
use Rattle.table_ops.specs.Columns.{cells_at, row_at}
use Rattle.table_ops.proofs.FailLaws.{failing_turn}
use Rattle.table_ops.proofs.MapLaws.{place_held, names_later}
use Rattle.table_ops.proofs.failing.failing.Goals as goal
use Rattle.table_ops.proofs.failing.failing.Goals.{then-branch+else-is_err, else-branch}

pub fails_at-requires-clause-items : goal.fails_at-requires-clause-items
fails_at-requires-clause-items c =
    place_held c.args.pool.now c.loop-place.pool c.args.store.now c.args.input.now.cols c.args.cols.now c.args.input.now.rows c.loop-place.place (map (λ s. s.now) c.deref.result.now) c.loop-place.invariant.0 c.requires.trees c.requires.rows
    (ap (map (λ s. s.now)) c.deref.ensures.value ∙ c.in_ok-add_cells.ensures ∙ ap (λ z. map (λ s. s.now) z ++ map (λ d. cells_at c.args.input.now.cols d c.args.input.now.rows) c.args.cols.now) c.new-columns.ensures.items)

pub fails_at-requires-clause-trees : goal.fails_at-requires-clause-trees
fails_at-requires-clause-trees c = trees_given_later c.args.pool.now c.loop-place.pool c.loop-place.invariant.0 c.args.store.now c.requires.trees

pub fails_at-requires-clause-names : goal.fails_at-requires-clause-names
fails_at-requires-clause-names c = names_later c.args.pool.now c.loop-place.pool c.args.store.now c.loop-place.invariant.0 c.requires.trees c.requires.names

pub loop-place-preserved : goal.loop-place-preserved
loop-place-preserved c =
    let small : c.loop-place.place < length c.args.input.now.rows = omega (arith, c.loop-place-test.true, c.height-place-end.ensures) in
    let put : c.if-branch.out.items ≡ cond c.in_ok-fails_at.field-0 (c.loop-place.out.items ++ c.loop-place.place ∷ []) c.loop-place.out.items =
    elim c.if-branch.branch [ then-branch+else-is_err w ↦ search rules | else-branch w ↦ search rules ] in (
      keeps_on c.args.pool.now c.loop-place.pool c.fails_at.new.pool c.loop-place.invariant.0 c.fails_at.ensures.keeps,
      failing_turn c.args.pool.now c.loop-place.pool c.args.store.now c.args.fun c.args.code c.args.input.now.cols c.args.cols.now c.args.input.now.rows c.loop-place.place (row_at (map (λ s. s.now) c.deref.result.now) c.loop-place.place)
          c.loop-place.out.items c.if-branch.out.items c.in_ok-fails_at.field-0 c.loop-place.invariant.0 c.requires.trees c.requires.names c.requires.rows small
          (ap (λ z. row_at z c.loop-place.place) (ap (map (λ s. s.now)) c.deref.ensures.value ∙ c.in_ok-add_cells.ensures ∙ ap (λ z. map (λ s. s.now) z ++ map (λ d. cells_at c.args.input.now.cols d c.args.input.now.rows) c.args.cols.now) c.new-columns.ensures.items))
          c.in_ok-fails_at.ensures.fails put c.loop-place.invariant.1,
    )
