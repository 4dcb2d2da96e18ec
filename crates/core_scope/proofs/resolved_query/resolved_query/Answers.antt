use Rattle.std.proofs.Common.{◌∙◌}
use Rattle.core_scope.specs.Open.{open_in}
use Rattle.core_scope.proofs.Assembling.{query_stands}
use Rattle.core_scope.proofs.resolved_query.resolved_query.Goals as goal

pub returns-clause-resolved : goal.returns-clause-resolved
returns-clause-resolved c =
    query_stands c.args.query.now c.version.new.pool c.declarations.new.pool c.resolve_expression.new.pool
    c.as_slice-from.result.now _ (open_in c.new-names.result) (open_in c.declarations.new.names)
    c.in_ok-version.version c.in_ok-setters.setters c.in_ok-declarations.declarations c.in_ok-body.body
    c.as_slice-from.ensures c.in_ok-functions.ensures c.new-names.ensures
    c.in_ok-version.ensures.stands (c.in_ok-setters.ensures ∙ c.as_slice.ensures) c.declarations.ensures.keeps
    c.in_ok-declarations.ensures.stands c.in_ok-declarations.ensures.names c.resolve_expression.ensures.keeps
    c.in_ok-body.ensures.stands
