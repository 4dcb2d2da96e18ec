use Rattle.std.proofs.Common.{◌≡◌, take, map}
use Rattle.table_ops.proofs.plain.new_names.Given as goal

abbrev pub invariant-loop-pair : goal.invariant-loop-pair
invariant-loop-pair l = l.names ≡ map (λ p. p.new) (take l.pair-index l.fn.pairs)
