use Rattle.std.proofs.Common.{◌∙◌, sym}
use Rattle.core_normal.proofs.CallsMade.{cast_one, cast_other}
use Rattle.core_normal.proofs.calling.cast_to.Goals as goal

pub returns-then-count-ne1 : goal.returns-then-count-ne1
returns-then-count-ne1 c = λ t. c.called.ensures t ∙ sym (cast_other t c.args.offset c.args.kind c.args.fun c.args.args (λ e. c.if-count-ne1.true (c.len-count.ensures ∙ e)))

pub returns-in_ok-core-in-Some : goal.returns-in_ok-core-in-Some
returns-in_ok-core-in-Some c = λ t.
    c.in_ok-core-in-Some.ensures t ∙ sym (cast_one t c.args.offset c.args.kind c.args.fun c.args.args _ _ (sym c.len-count.ensures ∙ c.if-count-ne1.false) c.in-Some.ensures)
