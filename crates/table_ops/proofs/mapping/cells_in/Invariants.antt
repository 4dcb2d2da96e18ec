use Rattle.std.proofs.Common.{◌≡◌, take, map}
use Rattle.table_ops.proofs.mapping.cells_in.Given as goal

abbrev pub invariant-loop-pair : goal.invariant-loop-pair
invariant-loop-pair l = l.out.items ≡ map (λ p. p.1) (take l.pair-index l.found)
