use Rattle.std.proofs.Common.{ap, ◌∙◌}
use Rattle.core_normal.specs.Finding.{with_calls}
use Rattle.core_normal.specs.Order.{variable_calls}
use Rattle.core_normal.proofs.Finding.{main_found}
use Rattle.core_normal.proofs.order.main_calls.Goals as goal

pub returns : goal.returns
returns c = λ t.
    c.in_ok-calls.ensures
    ∙ ap (with_calls c.args.main.now) (c.in_ok-variable_calls.ensures ∙ ap (variable_calls c.args.declarations.now) c.new-found.ensures.items)
    ∙ main_found t c.args.declarations.now c.args.main.now
