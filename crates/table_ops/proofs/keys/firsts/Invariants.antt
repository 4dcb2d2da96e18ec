use Rattle.std.proofs.Common.{◌≡◌, ◌≤◌, ◌++◌, drop}
use Rattle.table_ops.specs.Keys.{new_places}
use Rattle.table_ops.proofs.keys.firsts.Given as goal

abbrev pub invariant-loop-place : goal.invariant-loop-place
invariant-loop-place l = (l.out.items ++ new_places l.seen l.place (drop l.place l.keys) ≡ new_places 0 0 l.keys) × (l.seen ≤ l.place)
