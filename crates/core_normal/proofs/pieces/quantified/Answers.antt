use Rattle.std.proofs.Common.{sym, ap, ◌∙◌}
use Rattle.core_meaning.specs.Erasure.{core_of}
use Rattle.core_normal.specs.Pieces.{quantified}
use Rattle.core_normal.proofs.pieces.quantified.Goals as goal

pub returns-in_ok-core-in-Some : goal.returns-in_ok-core-in-Some
returns-in_ok-core-in-Some c = λ t. c.in_ok-core-in-Some.ensures t ∙ ap (λ q. quantified c.args.offset q (core_of t c.args.a)) (sym c.in-Some.is)

pub returns-in_ok-core-in-Every : goal.returns-in_ok-core-in-Every
returns-in_ok-core-in-Every c = λ t. c.in_ok-core-in-Every.ensures t ∙ ap (λ q. quantified c.args.offset q (core_of t c.args.a)) (sym c.in-Every.is)
