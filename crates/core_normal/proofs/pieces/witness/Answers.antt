use Rattle.std.proofs.Common.{sym, ap}
use Rattle.core_meaning.specs.Erasure.{core_of}
use Rattle.core_normal.specs.Pieces.{witness}
use Rattle.core_normal.proofs.pieces.witness.Goals as goal

pub returns-in_ok-core-in-Some : goal.returns-in_ok-core-in-Some
returns-in_ok-core-in-Some c =
    λ t. simp (c.in_ok-core-in-Some.ensures, c.literal-found.ensures, c.empty-nothing.ensures) (ap (λ q. witness c.args.offset q (core_of t c.args.a)) (sym c.in-Some.is))

pub returns-in_ok-core-in-Every : goal.returns-in_ok-core-in-Every
returns-in_ok-core-in-Every c =
    λ t. simp (c.in_ok-core-in-Every.ensures, c.literal-found.ensures, c.empty-nothing.ensures) (ap (λ q. witness c.args.offset q (core_of t c.args.a)) (sym c.in-Every.is))
