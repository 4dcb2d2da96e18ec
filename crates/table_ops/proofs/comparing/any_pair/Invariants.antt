use Rattle.std.proofs.Common.{◌≡◌, drop}
use Rattle.std.specs.List.{list_any}
use Rattle.table_ops.specs.Columns.{cell_of}
use Rattle.table_ops.specs.Pairs.{pair_at}
use Rattle.table_ops.proofs.comparing.any_pair.Given as goal

abbrev pub invariant-loop-place : goal.invariant-loop-place
invariant-loop-place l = list_any (λ p. pair_at l.pool l.wanted l.op l.value (cell_of l.others p)) (drop l.place-index l.places) ≡ list_any (λ p. pair_at l.pool l.wanted l.op l.value (cell_of l.others p)) l.places
