use Rattle.std.proofs.Common.{◌≡◌, take, map}
use Rattle.table_ops.proofs.plain.old_names.Given as goal

abbrev pub invariant-loop-pair : goal.invariant-loop-pair
invariant-loop-pair l = l.names ≡ map (λ p. p.old) (take l.pair-index l.fn.pairs)
