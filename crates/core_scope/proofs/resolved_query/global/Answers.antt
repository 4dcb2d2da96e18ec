use Rattle.std.proofs.Common.{ap, ◌∙◌}
use Rattle.core_scope.specs.Open.{open_in, entered, global_at}
use Rattle.core_scope.proofs.resolved_query.global.Goals as goal

pub returns-clause-names : goal.returns-clause-names
returns-clause-names c =
    c.in_ok-enter.ensures
    ∙ ap (λ x. entered x (global_at c.args.from.now.offset c.args.number) (open_in c.resolve_expression.new.names)) c.as_slice.ensures
    ∙ ap (entered c.args.from.now.name.text (global_at c.args.from.now.offset c.args.number)) c.in_ok-value.ensures.names
