use Rattle.std.proofs.Common.{◌≡◌, ◌≤◌, ◌^◌, drop}
use Rattle.xq_funs.specs.Numerals.{whole_from}
use Rattle.xq_funs.proofs.numerals.whole.Given as goal

abbrev pub invariant-loop-digit : goal.invariant-loop-digit
invariant-loop-digit l = (whole_from l.number (drop l.digit-index l.digits) ≡ whole_from 0 l.digits) × (l.number ≤ 2 ^ 63)
