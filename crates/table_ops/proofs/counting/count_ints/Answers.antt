use Rattle.std.proofs.Common.{arith, refl}
use Rattle.table_ops.specs.Counts.{ints_count}
use Rattle.table_ops.proofs.CountedLaws.{ints_turn}
use Rattle.table_ops.proofs.counting.count_ints.Goals as goal

pub loop-place-preserved : goal.loop-place-preserved
loop-place-preserved c = (
  ints_turn c.args.lows.now c.args.highs.now c.loop-place.place _ _ c.loop-place.total c.width-total.result _ (ints_count c.args.lows.now c.args.highs.now) c.loop-place-test.true (omega (arith, c.loop-place-test.true, c.requires.as_many)) c.width-total.ensures.many refl c.loop-place.invariant.0,
  omega (arith, c.loop-place.invariant.1, c.width-total.ensures.few),
)
