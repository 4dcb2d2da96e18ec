use Rattle.std.proofs.Common.{◌≡◌}
use Rattle.step_bench.specs.Context.{first_rows}
use Rattle.step_bench.proofs.context.rows_below.Given as goal

abbrev pub invariant-loop-k : goal.invariant-loop-k
invariant-loop-k l = l.context.items ≡ first_rows l.k
