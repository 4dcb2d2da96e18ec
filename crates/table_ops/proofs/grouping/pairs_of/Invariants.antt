use Rattle.std.proofs.Common.{◌≡◌, ◌++◌, drop}
use Rattle.table_ops.specs.Groups.{paired}
use Rattle.table_ops.proofs.grouping.pairs_of.Given as goal

abbrev pub invariant-loop-place : goal.invariant-loop-place
invariant-loop-place l = l.out.items ++ paired (drop l.place l.keys) (drop l.place l.cells) ≡ paired l.keys l.cells
