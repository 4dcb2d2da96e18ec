use Rattle.std.proofs.Common.{◌≡◌, length}
use Rattle.staircase.specs.Frames.{unfinished}
use Rattle.staircase.proofs.frames.finish.Given as goal

abbrev pub invariant-loop-f : goal.invariant-loop-f
invariant-loop-f l = unfinished l.frames ≡ unfinished l.initial.frames

abbrev pub decreases-loop-f : goal.decreases-loop-f
decreases-loop-f l = length l.frames
