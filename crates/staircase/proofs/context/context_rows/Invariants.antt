use Rattle.std.proofs.Common.{◌≡◌, ◌++◌, drop, None}
use Rattle.staircase.specs.Joins.{rows_from}
use Rattle.staircase.proofs.context.context_rows.Given as goal

abbrev pub invariant-loop-ctx : goal.invariant-loop-ctx
invariant-loop-ctx l = l.found.items ++ rows_from l.rows l.owners l.last (drop l.ctx-index l.context) ≡ rows_from l.rows l.owners None l.context
