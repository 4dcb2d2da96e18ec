use Rattle.std.proofs.Common.{◌≡◌, ◌++◌, map, drop}
use Rattle.staircase.specs.Joins.{row_hit}
use Rattle.staircase.proofs.count.push_rows.Given as goal

abbrev pub invariant-loop-row : goal.invariant-loop-row
invariant-loop-row l = l.hits.items ++ map row_hit (drop l.row-index l.rows) ≡ l.initial.hits.items ++ map row_hit l.rows
