use Rattle.std.proofs.Common.{◌≡◌}
use Rattle.table_bench.specs.Tables.{table_with}
use Rattle.table_bench.proofs.tables.table_with.Given as goal

abbrev pub invariant-loop-number : goal.invariant-loop-number
invariant-loop-number l = l.table ≡ table_with l.cols l.number
