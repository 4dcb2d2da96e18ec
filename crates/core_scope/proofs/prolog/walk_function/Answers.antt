use Rattle.std.proofs.Common.{length, ap, ◌∙◌}
use Rattle.std.proofs.lemmas.Result.{IfOk-weaker}
use Rattle.core_scope.specs.Names.{is_taken}
use Rattle.core_scope.specs.Open.{open_in}
use Rattle.core_scope.specs.Telling.{told}
use Rattle.core_scope.proofs.Passing.{function_found, params_names}
use Rattle.core_scope.proofs.prolog.walk_function.Goals as goal

pub returns-clause-found : goal.returns-clause-found
returns-clause-found c =
    IfOk-weaker c.leave_to.result _ _
    (λ u e. function_found c.args.functions.now c.args.before.now c.args.name.now c.args.params.now c.args.ty.now c.args.body.now (open_in c.args.names.now) (open_in c.walk_params.new.names)
    c.args.found.now c.amiss_where.new.self c.walk_params.new.found c.types_amiss.new.found c.walk.new.found c.has-taken.result
    (c.has-taken.ensures ∙ ap (λ z. is_taken c.args.before.now z (length c.args.params.now)) c.as_slice.ensures)
    c.amiss_where.ensures c.in_ok-walk_params.ensures.found c.in_ok-walk_params.ensures.names c.types_amiss.ensures
    (c.in_ok-walk.ensures.found ∙ ap (λ z. told c.args.functions.now z (open_in c.walk_params.new.names) c.types_amiss.new.found) c.get.ensures))
    c.leave_to.ensures

pub returns-clause-names : goal.returns-clause-names
returns-clause-names c =
    IfOk-weaker c.leave_to.result _ _
    (λ u e. params_names c.args.params.now (open_in c.args.names.now) (open_in c.walk_params.new.names) (open_in c.walk.new.names) (open_in c.leave_to.new.self)
    c.depth-mark.result c.depth-mark.ensures c.in_ok-walk_params.ensures.names c.in_ok-walk.ensures.names e)
    c.leave_to.ensures
