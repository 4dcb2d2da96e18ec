use Rattle.std.proofs.Common.{◌≡◌, ◌++◌, drop}
use Rattle.table_ops.specs.Chains.{places_of}
use Rattle.table_ops.specs.Picks.{is_at_least}
use Rattle.table_ops.proofs.picks.places_from.Given as goal

abbrev pub invariant-loop-place : goal.invariant-loop-place
invariant-loop-place l = l.out.items ++ places_of (is_at_least l.least) l.place (drop l.place l.keys) ≡ places_of (is_at_least l.least) 0 l.keys
