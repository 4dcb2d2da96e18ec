use Rattle.std.proofs.Common.{◌∙◌, ◌+◌, ◌-ℤ◌, ap, arith}
use Rattle.std.specs.Prelude.{unsigned_abs}
use Rattle.std.proofs.Math.Facts.{to_z-of_z}
use Rattle.std.proofs.lemmas.Int.{ints}
use Rattle.table_ops.proofs.CountedLaws.{count_some}
use Rattle.table_ops.proofs.counting.count_up.Goals as goal

pub returns-else-high-low-clause-many : goal.returns-else-high-low-clause-many
returns-else-high-low-clause-many c =
    ap (λ n. n + 1) (c.abs_diff.ensures ∙ (λ i. unsigned_abs (to_z-of_z c.ranges.high i -ℤ to_z-of_z c.ranges.low i))) ∙ count_some c.args.low c.args.high (omega (arith, ints, c.if-high-low.false))
