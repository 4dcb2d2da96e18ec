use Rattle.std.proofs.Common.{ap, ◌∙◌}
use Rattle.core_scope.specs.Open.{entered_variable}
use Rattle.core_scope.proofs.resolving.Resolver.let_bind.Goals as goal

pub returns-clause-names : goal.returns-clause-names
returns-clause-names g c = c.in_ok-enter_variable.ensures ∙ ap (entered_variable c.args.bind.now.var) c.in_ok-value.ensures.names
