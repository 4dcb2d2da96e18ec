use Rattle.std.proofs.Common.{ap, ◌∙◌, length}
use Rattle.core_scope.specs.Open.{open_in, left_to}
use Rattle.core_scope.proofs.Passing.{left_params}
use Rattle.core_scope.proofs.resolved_query.function.Goals as goal

pub returns-clause-names : goal.returns-clause-names
returns-clause-names c =
    c.in_ok-leave_to.ensures
    ∙ ap (λ m. left_to m (open_in c.resolve_expression.new.names)) c.depth-mark.ensures
    ∙ ap (left_to (length ((open_in c.args.names.now).outer))) (c.in_ok-body.ensures.names ∙ c.in_ok-params.ensures.names)
    ∙ left_params c.args.from.now (open_in c.args.names.now)
