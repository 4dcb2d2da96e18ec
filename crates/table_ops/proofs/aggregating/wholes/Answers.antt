use Rattle.std.proofs.Common.{◌^◌, ◌∙◌}
use Rattle.xq_funs.proofs.Later.{trees_given_later, keeps_on}
use Rattle.table_ops.proofs.MapLaws.{names_later}
use Rattle.table_ops.proofs.AggregateLaws.{members_few, members_given, wholes_turn}
use Rattle.table_ops.proofs.aggregating.wholes.Goals as goal

pub put_whole-requires-clause-few : goal.put_whole-requires-clause-few
put_whole-requires-clause-few c = members_few (2 ^ 32) c.args.index.now c.args.values.now c.deref.result.now _ (c.deref.ensures.value ∙ c.in_ok-cells.ensures) c.requires.index

pub put_whole-requires-clause-items : goal.put_whole-requires-clause-items
put_whole-requires-clause-items c =
    members_given c.args.pool.now c.loop-place.pool c.loop-place.pool c.args.store.now c.loop-place.invariant.0 c.requires.trees c.args.index.now c.args.values.now c.args.groups.now c.requires.values c.loop-place.place _ c.deref.result.now (c.deref.ensures.value ∙ c.in_ok-cells.ensures)

pub put_whole-requires-clause-trees : goal.put_whole-requires-clause-trees
put_whole-requires-clause-trees c = trees_given_later c.args.pool.now c.loop-place.pool c.loop-place.invariant.0 c.args.store.now c.requires.trees

pub put_whole-requires-clause-names : goal.put_whole-requires-clause-names
put_whole-requires-clause-names c = names_later c.args.pool.now c.loop-place.pool c.args.store.now c.loop-place.invariant.0 c.requires.trees c.requires.names

pub loop-place-preserved : goal.loop-place-preserved
loop-place-preserved c = (
  keeps_on c.args.pool.now c.loop-place.pool c.put_whole.new.pool c.loop-place.invariant.0 c.put_whole.ensures.keeps,
  wholes_turn c.args.pool.now c.loop-place.pool c.put_whole.new.pool c.args.store.now c.loop-place.invariant.0 c.requires.trees c.args.index.now c.args.values.now c.args.groups.now c.requires.values c.loop-place.place _ c.deref.result.now (c.deref.ensures.value ∙ c.in_ok-cells.ensures)
      c.args.agg c.requires.names c.loop-place-test.true c.loop-place.found.items c.put_whole.new.found.items c.in_ok-put_whole.ensures.found c.loop-place.invariant.1,
  c.in_ok-put_whole.ensures.given,
)
