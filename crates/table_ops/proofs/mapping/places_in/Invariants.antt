use Rattle.std.proofs.Common.{◌≡◌, take, map}
use Rattle.table_ops.proofs.mapping.places_in.Given as goal

abbrev pub invariant-loop-pair : goal.invariant-loop-pair
invariant-loop-pair l = l.out.items ≡ map (λ p. p.0) (take l.pair-index l.found)
