use Rattle.std.proofs.Common.{◌≤◌, length, ◌-◌, take}
use Rattle.io_edge.specs.Sinks.{TakesOf}
use Rattle.io_edge.proofs.whole.write_whole.Given as goal

abbrev pub invariant-loop-at : goal.invariant-loop-at
invariant-loop-at g l =
    (g.S.Sink.faults l.initial.sink ≤ g.S.Sink.faults l.sink)
    × (l.at ≤ length l.bytes)
    × TakesOf (g.S.Sink.taken l.initial.sink) (g.S.Sink.taken l.sink) (take l.at l.bytes)

abbrev pub decreases-loop-at : goal.decreases-loop-at
decreases-loop-at g l = length l.bytes - l.at
