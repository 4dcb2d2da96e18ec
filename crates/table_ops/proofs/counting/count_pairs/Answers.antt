use Rattle.std.proofs.Common.{arith, refl}
use Rattle.table_ops.specs.Counts.{pairs_count}
use Rattle.table_ops.proofs.CountedLaws.{pairs_turn}
use Rattle.table_ops.proofs.counting.count_pairs.Goals as goal

pub loop-place-preserved : goal.loop-place-preserved
loop-place-preserved c = (
  pairs_turn c.args.index.now c.args.cells.now c.loop-place.place _ c.loop-place.total c.count_equal.result _ (pairs_count c.args.index.now c.args.cells.now) c.loop-place-test.true c.count_equal.ensures.many refl c.loop-place.invariant.0,
  omega (arith, c.loop-place.invariant.1, c.count_equal.ensures.few),
)
