use Rattle.std.proofs.Common.{◌≡◌, arith, pos, ◌+ℤ◌, w64, to_z, of_z}
use Rattle.std.proofs.lemmas.Int.{ints}
use Rattle.table_ops.proofs.RangeLaws.{count_follow}
use Rattle.table_ops.proofs.ranges.following.Goals as goal

pub returns-then-at-high-clause-rest : goal.returns-then-at-high-clause-rest
returns-then-at-high-clause-rest c =
    let next : to_z w64 (of_z w64 (to_z w64 (of_z w64 c.args.at) +ℤ pos 1)) ≡ c.args.at +ℤ pos 1 = omega (arith, ints, c.if-at-high.true) in
    count_follow c.args.at (to_z w64 (of_z w64 (to_z w64 (of_z w64 c.args.at) +ℤ pos 1))) c.args.high c.requires next
