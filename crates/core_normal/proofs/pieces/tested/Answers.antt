use Rattle.std.proofs.Common.{sym, ap}
use Rattle.core_meaning.specs.Erasure.{core_of}
use Rattle.core_normal.specs.Held.{type_in}
use Rattle.core_normal.specs.Pieces.{tested}
use Rattle.core_normal.proofs.pieces.tested.Goals as goal

pub returns-in_ok-core-in-Some : goal.returns-in_ok-core-in-Some
returns-in_ok-core-in-Some c =
    λ t. simp (c.in_ok-core-in-Some.ensures, c.in_ok-value-in-Some.ensures) (ap (λ q. tested c.args.offset (type_in t q) c.args.y c.args.x (core_of t c.args.e)) (sym c.in-Some.is))
