use Rattle.std.proofs.Common.{cond, sym, ap, ◌∙◌}
use Rattle.core_meaning.specs.Erasure.{core_of}
use Rattle.core_normal.specs.Pieces.{boolean}
use Rattle.core_normal.proofs.pieces.operand.Goals as goal

pub returns-then-is_logical : goal.returns-then-is_logical
returns-then-is_logical c =
    λ t. c.in_ok-core.ensures t ∙ ap (λ b. cond b (boolean c.args.offset (core_of t c.args.a)) (core_of t c.args.a)) (sym c.if-is_logical.true ∙ c.is_logical.ensures)
