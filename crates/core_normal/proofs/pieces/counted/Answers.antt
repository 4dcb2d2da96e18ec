use Rattle.std.proofs.Common.{cond, sym, ap, ◌∙◌}
use Rattle.xq_base.specs.declared.fun.Fun.TheVariants as fun
use Rattle.core_meaning.specs.Erasure.{core_of}
use Rattle.core_meaning.specs.PlainCore as p
use Rattle.core_normal.specs.Pieces.{counted, one}
use Rattle.core_normal.proofs.pieces.counted.Goals as goal

pub returns-then-is_reverse : goal.returns-then-is_reverse
unfolding counted
returns-then-is_reverse c =
    λ t. c.in_ok-core.ensures t
    ∙ ap (λ b. cond b (p.Call c.args.offset fun.Reverse (one (core_of t c.args.a))) (core_of t c.args.a)) (sym c.if-is_reverse.true ∙ c.is_reverse.ensures)
