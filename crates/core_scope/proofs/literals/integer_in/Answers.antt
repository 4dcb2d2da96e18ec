use Rattle.std.proofs.Common.{refl, get_or, arith}
use Rattle.core_scope.proofs.Digits.{beyond}
use Rattle.core_scope.proofs.literals.integer_in.Goals as goal

pub returns-then-n-gt9223372036854775807 : goal.returns-then-n-gt9223372036854775807
returns-then-n-gt9223372036854775807 c =
    beyond c.args.digits.now c.loop-d.n c.loop-d.d-index (get_or c.args.digits.now c.loop-d.d-index 0) c.loop-d-test.true c.loop-d.invariant.0 refl
    (grind (arith, c.if-n-gt9223372036854775807.true, c.saturating_sub.ensures))
