use Rattle.std.proofs.Common.{◌≡◌, take, map}
use Rattle.xq_base.specs.declared.item.Item.TheVariants as i
use Rattle.table_ops.proofs.ranges.cells_in.Given as goal

abbrev pub invariant-loop-pair : goal.invariant-loop-pair
invariant-loop-pair l = l.out.items ≡ map (λ p. i.Int p.1) (take l.pair-index l.pairs)
