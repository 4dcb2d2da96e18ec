use Rattle.std.proofs.Common.{◌≡◌, ◌∷◌, [], map, take}
use Rattle.plan_eval.specs.Making.{row_of}
use Rattle.plan_eval.proofs.steps.table_of.Given as goal

abbrev pub invariant-loop-row : goal.invariant-loop-row
invariant-loop-row l = l.table ≡ record { cols = l.fn.iter ∷ l.fn.node ∷ []; rows = map row_of (take l.row-index l.rows) }
