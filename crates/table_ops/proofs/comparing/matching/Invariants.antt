use Rattle.std.proofs.Common.{◌≡◌, ◌++◌, drop}
use Rattle.table_ops.specs.Pairs.{pair_places}
use Rattle.table_ops.proofs.comparing.matching.Given as goal

abbrev pub invariant-loop-place : goal.invariant-loop-place
invariant-loop-place l = l.out.items ++ pair_places l.pool l.wanted l.op l.index l.others l.place (drop l.place l.cells) (drop l.place l.values) ≡ pair_places l.pool l.wanted l.op l.index l.others 0 l.cells l.values
