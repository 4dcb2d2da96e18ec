use Rattle.std.proofs.Common.{◌≡◌, ◌^◌, ◌∙◌, ◌++◌, ◌∷◌, [], cond, rules}
use Rattle.xq_funs.proofs.Later.{trees_given_later, keeps_on}
use Rattle.table_ops.proofs.MapLaws.{names_later}
use Rattle.table_ops.proofs.AggregateLaws.{members_few, members_given, fails_turn}
use Rattle.table_ops.proofs.aggregating.failing_groups.Goals as goal
use Rattle.table_ops.proofs.aggregating.failing_groups.Goals.{then-branch+else-is_err, else-branch}

pub fails-requires-clause-few : goal.fails-requires-clause-few
fails-requires-clause-few c = members_few (2 ^ 32) c.args.index.now c.args.values.now c.deref.result.now _ (c.deref.ensures.value ∙ c.in_ok-cells.ensures) c.requires.index

pub fails-requires-clause-items : goal.fails-requires-clause-items
fails-requires-clause-items c =
    members_given c.args.pool.now c.loop-place.pool c.loop-place.pool c.args.store.now c.loop-place.invariant.0 c.requires.trees c.args.index.now c.args.values.now c.args.groups.now c.requires.values c.loop-place.place _ c.deref.result.now (c.deref.ensures.value ∙ c.in_ok-cells.ensures)

pub fails-requires-clause-trees : goal.fails-requires-clause-trees
fails-requires-clause-trees c = trees_given_later c.args.pool.now c.loop-place.pool c.loop-place.invariant.0 c.args.store.now c.requires.trees

pub fails-requires-clause-names : goal.fails-requires-clause-names
fails-requires-clause-names c = names_later c.args.pool.now c.loop-place.pool c.args.store.now c.loop-place.invariant.0 c.requires.trees c.requires.names

pub loop-place-preserved : goal.loop-place-preserved
loop-place-preserved c =
    let put : c.if-branch.out.items ≡ cond c.in_ok-fails.field-0 (c.loop-place.out.items ++ c.loop-place.place ∷ []) c.loop-place.out.items =
    elim c.if-branch.branch [ then-branch+else-is_err w ↦ search rules | else-branch w ↦ search rules ] in (
      keeps_on c.args.pool.now c.loop-place.pool c.fails.new.pool c.loop-place.invariant.0 c.fails.ensures.keeps,
      fails_turn c.args.pool.now c.loop-place.pool c.fails.new.pool c.args.store.now c.loop-place.invariant.0 c.requires.trees c.args.index.now c.args.values.now c.args.groups.now c.requires.values c.loop-place.place _ c.deref.result.now (c.deref.ensures.value ∙ c.in_ok-cells.ensures)
          c.args.agg c.requires.names c.loop-place-test.true c.args.code c.loop-place.out.items c.if-branch.out.items c.in_ok-fails.field-0 c.in_ok-fails.ensures.fails put c.loop-place.invariant.1,
    )
