use Rattle.staircase.specs.Chains.{NoMarks}
use Rattle.staircase.proofs.chains.no_marks.Given as goal

abbrev pub invariant-loop-place : goal.invariant-loop-place
invariant-loop-place l = NoMarks l.marks.items l._place
