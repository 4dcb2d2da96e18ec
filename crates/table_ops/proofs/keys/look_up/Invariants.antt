use Rattle.std.proofs.Common.{◌≡◌, take, map}
use Rattle.table_ops.specs.Keys.{place_in}
use Rattle.table_ops.proofs.keys.look_up.Given as goal

abbrev pub invariant-loop-value : goal.invariant-loop-value
invariant-loop-value g l = l.out.items ≡ map (place_in g.T.PartialEq.eq l.table.keys) (take l.value-index l.values)
