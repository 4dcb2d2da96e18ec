use Rattle.std.proofs.Common.{◌≡◌, max, drop}
use Rattle.staircase.specs.Joins.{end_of}
use Rattle.staircase.proofs.reads.end_of.Given as goal

abbrev pub invariant-loop-row : goal.invariant-loop-row
invariant-loop-row l = max l.end (end_of (drop l.row-index l.rows)) ≡ end_of l.rows
