use Rattle.std.proofs.Common.{◌-◌, ◌≤◌, length}
use Rattle.staircase.specs.Parts.{IsRising, Splits}
use Rattle.staircase.proofs.part.place_of.Given as goal

abbrev pub invariant-loop-low : goal.invariant-loop-low
invariant-loop-low l = record {
  order : l.low ≤ l.high;
  within : l.high ≤ length l.seen;
  split : IsRising l.seen → Splits l.seen l.pre l.low l.high;
}

abbrev pub decreases-loop-low : goal.decreases-loop-low
decreases-loop-low l = l.high - l.low
