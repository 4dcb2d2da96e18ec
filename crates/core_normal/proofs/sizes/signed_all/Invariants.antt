use Rattle.std.proofs.Common.{◌≡◌, drop}
use Rattle.core_normal.specs.Counting as z
use Rattle.core_normal.proofs.sizes.signed_all.Given as goal

abbrev pub invariant-loop-one : goal.invariant-loop-one
invariant-loop-one l = z.signs z.bare l.signs ≡ z.signs l.found (drop l.one-index l.signs)
