use Rattle.std.proofs.Common.{arith, ◌+◌, ◌-◌, ◌/◌, ℕ}
use Rattle.staircase.proofs.PartLaws.{split-up, split-down}
use Rattle.staircase.proofs.part.place_of.Goals as goal

pub loop-low-preserved-then-seen-mid : goal.loop-low-preserved-then-seen-mid
loop-low-preserved-then-seen-mid c =
    let low : ℕ = c.loop-low.low in
    let high : ℕ = c.loop-low.high in
    let mid : ℕ = low + (high - low) / 2 in
    record {
      order = omega arith;
      within = c.loop-low.invariant.within;
      split = λ r. split-up c.args.seen.now c.args.pre low high mid _ r (c.loop-low.invariant.split r) (omega arith) c.if-seen-mid.true;
    }

pub loop-low-preserved : goal.loop-low-preserved
loop-low-preserved c =
    let low : ℕ = c.loop-low.low in
    let high : ℕ = c.loop-low.high in
    let mid : ℕ = low + (high - low) / 2 in
    record {
      order = omega arith;
      within = omega arith;
      split = λ r. split-down c.args.seen.now c.args.pre low high mid _ r (c.loop-low.invariant.split r) (omega arith) c.if-seen-mid.false;
    }
