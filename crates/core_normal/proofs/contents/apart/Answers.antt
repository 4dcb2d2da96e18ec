use Rattle.std.proofs.Common.{Some, sym, ap, ◌∙◌}
use Rattle.core_normal.specs.Contents.{core_at, joined, kept_apart}
use Rattle.core_normal.specs.Pieces.{text_node}
use Rattle.core_normal.proofs.contents.apart.Goals as goal

pub returns-then-behind : goal.returns-then-behind
returns-then-behind c =
    λ t z. ap (λ a. Some a) (c.in_ok-core.ensures t ∙ ap (joined c.args.offset (core_at t c.args.before)) (c.in_ok-node.ensures t ∙ ap (text_node c.args.offset) z))
    ∙ ap (λ b. kept_apart c.args.offset b (core_at t c.args.before)) (sym c.if-behind.true)

pub returns : goal.returns
returns c = λ t z. ap (λ b. kept_apart c.args.offset b (core_at t c.args.before)) (sym c.if-behind.false)
