use Rattle.std.proofs.Common.{◌<◌, length, get_or, sym, subst}
use Rattle.table_ops.proofs.Chaining.{below_at}
use Rattle.table_ops.proofs.OrderCounts.{scatter_turn}
use Rattle.table_ops.proofs.numbering.place_all.Goals as goal

pub bounds-out-place : goal.bounds-out-place
bounds-out-place c = subst (λ n. get_or c.args.order.now c.loop-turn.turn 0 < n) (sym c.loop-turn.invariant.1) (below_at (length c.args.order.now) c.args.order.now c.loop-turn.turn c.requires.within c.loop-turn-test.true)

pub loop-turn-preserved : goal.loop-turn-preserved
loop-turn-preserved c =
    scatter_turn c.args.order.now c.args.cells.now c.loop-turn.turn c.loop-turn.out c.cell_at.result c.cell_at.ensures c.loop-turn-test.true c.requires.as_many c.requires.once
    (below_at (length c.args.order.now) c.args.order.now c.loop-turn.turn c.requires.within c.loop-turn-test.true) c.loop-turn.invariant.1 c.loop-turn.invariant.0
