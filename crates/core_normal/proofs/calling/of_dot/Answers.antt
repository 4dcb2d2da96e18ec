use Rattle.std.proofs.Common.{◌∙◌, sym, arith}
use Rattle.core_meaning.specs.Erasure.{core_of}
use Rattle.core_normal.proofs.CallsMade.{no_args, some_args}
use Rattle.core_normal.proofs.calling.of_dot.Goals as goal

pub returns-then-len-gt0 : goal.returns-then-len-gt0
returns-then-len-gt0 c = λ t. c.called.ensures t ∙ sym (some_args t c.args.offset c.args.fun c.args.args (core_of t c.args.item) (omega (arith, c.if-len-gt0.true, c.len.ensures)))

pub returns : goal.returns
returns c = λ t. c.in_ok-core.ensures t ∙ sym (no_args t c.args.offset c.args.fun c.args.args (core_of t c.args.item) (omega (arith, c.if-len-gt0.false, c.len.ensures)))
