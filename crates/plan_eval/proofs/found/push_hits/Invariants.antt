use Rattle.std.proofs.Common.{◌≡◌, ◌++◌, map, take}
use Rattle.plan_eval.specs.Entries.{reached_at}
use Rattle.plan_eval.proofs.found.push_hits.Given as goal

abbrev pub invariant-loop-hit : goal.invariant-loop-hit
invariant-loop-hit l = l.rows.items ≡ l.initial.rows.items ++ map (reached_at l.rank) (take l.hit-index l.hits)
