use Rattle.std.proofs.Common.{sym, ap}
use Rattle.core_meaning.specs.Erasure.{core_of}
use Rattle.core_normal.specs.Pieces.{signed_core}
use Rattle.core_normal.proofs.pieces.signed.Goals as goal

pub returns-in_ok-core-in-Plus : goal.returns-in_ok-core-in-Plus
returns-in_ok-core-in-Plus c =
    λ t. simp (c.in_ok-core-in-Plus.ensures, c.literal-zero.ensures) (ap (λ q. signed_core c.args.offset q (core_of t c.args.a)) (sym c.in-Plus.is))

pub returns-in_ok-core-in-Minus : goal.returns-in_ok-core-in-Minus
returns-in_ok-core-in-Minus c =
    λ t. simp (c.in_ok-core-in-Minus.ensures) (ap (λ q. signed_core c.args.offset q (core_of t c.args.a)) (sym c.in-Minus.is))
