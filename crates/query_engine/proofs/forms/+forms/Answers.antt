use Rattle.std.proofs.Common.{◌&&◌, sym, ap, ◌∙◌}
use Rattle.core_meaning.specs.Erasure.{core_of}
use Rattle.query_engine.specs.Evaluated.{has_forms}
use Rattle.query_engine.proofs.Few.{two_of, two_formed, one_formed, more_formed}
use Rattle.query_engine.proofs.forms.+forms.Goals as goal

pub two_forms-returns-in-len1 : goal.two_forms-returns-in-len1
two_forms-returns-in-len1 t c = sym (one_formed (core_of c.args.texts.now) c.args.sums c.args.operands.now c.in-len1.len_at_least c.in-len1.len_below)

pub two_forms-returns-in-len3-up : goal.two_forms-returns-in-len3-up
two_forms-returns-in-len3-up t c = sym (more_formed (core_of c.args.texts.now) c.args.sums c.args.operands.now c.in-len3-up.len_at_least)

pub two_forms-returns-then-has_forms : goal.two_forms-returns-then-has_forms
two_forms-returns-then-has_forms t c =
    let two = two_of c.args.operands.now c.first-item.result c.second-item.result c.in-len2.len_at_least c.in-len2.len_below c.first-item.is c.second-item.is in
    c.has_forms-then-has_forms.ensures
    ∙ ap (λ b. b && has_forms c.args.sums (core_of c.args.texts.now c.second-item.result)) (sym c.if-has_forms.true ∙ c.has_forms.ensures)
    ∙ sym (two_formed (core_of c.args.texts.now) c.args.sums c.args.operands.now c.first-item.result c.second-item.result two)

pub two_forms-returns-else-has_forms : goal.two_forms-returns-else-has_forms
two_forms-returns-else-has_forms t c =
    let two = two_of c.args.operands.now c.first-item.result c.second-item.result c.in-len2.len_at_least c.in-len2.len_below c.first-item.is c.second-item.is in
    c.if-has_forms.false
    ∙ ap (λ b. b && has_forms c.args.sums (core_of c.args.texts.now c.second-item.result)) (sym c.if-has_forms.false ∙ c.has_forms.ensures)
    ∙ sym (two_formed (core_of c.args.texts.now) c.args.sums c.args.operands.now c.first-item.result c.second-item.result two)
