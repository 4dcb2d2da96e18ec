use Rattle.std.proofs.Common.{ap, ◌∙◌}
use Rattle.std.proofs.lemmas.Result.{IfOk-weaker}
use Rattle.core_scope.specs.Names.{function_of}
use Rattle.core_scope.specs.Open.{open_in, entered_variable}
use Rattle.core_scope.specs.Telling.{entered_clauses, entered_quants, told, told_clauses, told_keys}
use Rattle.core_scope.proofs.Walking.{flwor_found, call_found, clauses_names, quants_names}
use Rattle.core_scope.proofs.walk.+walk.Goals as goal

pub walk-returns-in_ok-walk-in-Flwor-clause-found : goal.walk-returns-in_ok-walk-in-Flwor-clause-found
walk-returns-in_ok-walk-in-Flwor-clause-found t c =
    IfOk-weaker c.leave_to.result _ _
    (λ u e. flwor_found c.args.functions.now c.args.node.now c.in-Flwor.field-0 c.in-Flwor.clauses c.in-Flwor.condition c.in-Flwor.keys c.in-Flwor.body
    (open_in c.args.names.now) (open_in c.walk_clauses.new.names) (open_in c.walk_maybe.new.names) (open_in c.walk_keys.new.names)
    c.args.found.now c.walk_clauses.new.found c.walk_maybe.new.found c.walk_keys.new.found c.walk-in-Flwor.new.found
    c.in-Flwor.is
    (c.in_ok-walk_clauses-in-Flwor.ensures.found ∙ ap (λ z. told_clauses c.args.functions.now z (open_in c.args.names.now) c.args.found.now) c.as_slice-in-Flwor.ensures)
    (c.in_ok-walk_clauses-in-Flwor.ensures.names ∙ ap (λ z. entered_clauses z (open_in c.args.names.now)) c.as_slice-in-Flwor.ensures)
    c.in_ok-walk_maybe-in-Flwor.ensures.found
    c.in_ok-walk_maybe-in-Flwor.ensures.names
    (c.in_ok-walk_keys-in-Flwor.ensures.found ∙ ap (λ z. told_keys c.args.functions.now z (open_in c.walk_maybe.new.names) c.walk_maybe.new.found) c.as_slice-in-Flwor-2.ensures)
    c.in_ok-walk_keys-in-Flwor.ensures.names
    (c.in_ok-walk-in-Flwor.ensures.found ∙ ap (λ z. told c.args.functions.now z (open_in c.walk_keys.new.names) c.walk_keys.new.found) c.get-in-Flwor.ensures))
    c.leave_to.ensures

pub walk-returns-in_ok-walk-in-Flwor-clause-names : goal.walk-returns-in_ok-walk-in-Flwor-clause-names
walk-returns-in_ok-walk-in-Flwor-clause-names t c =
    IfOk-weaker c.leave_to.result _ _
    (λ u e. clauses_names c.in-Flwor.clauses (open_in c.args.names.now) (open_in c.walk_clauses.new.names) (open_in c.walk_maybe.new.names) (open_in c.walk_keys.new.names) (open_in c.walk-in-Flwor.new.names) (open_in c.leave_to.new.self)
    c.depth-mark.result c.depth-mark.ensures
    (c.in_ok-walk_clauses-in-Flwor.ensures.names ∙ ap (λ z. entered_clauses z (open_in c.args.names.now)) c.as_slice-in-Flwor.ensures)
    c.in_ok-walk_maybe-in-Flwor.ensures.names c.in_ok-walk_keys-in-Flwor.ensures.names c.in_ok-walk-in-Flwor.ensures.names e)
    c.leave_to.ensures

pub walk-returns-in_ok-walk-in-Quantified-clause-names : goal.walk-returns-in_ok-walk-in-Quantified-clause-names
walk-returns-in_ok-walk-in-Quantified-clause-names t c =
    IfOk-weaker c.leave_to-in-Quantified.result _ _
    (λ u e. quants_names c.in-Quantified.binds (open_in c.args.names.now) (open_in c.walk_quants.new.names) (open_in c.walk-in-Quantified.new.names) (open_in c.leave_to-in-Quantified.new.self)
    c.depth-mark-in-Quantified.result c.depth-mark-in-Quantified.ensures
    (c.in_ok-walk_quants-in-Quantified.ensures.names ∙ ap (λ z. entered_quants z (open_in c.args.names.now)) c.as_slice-in-Quantified.ensures)
    c.in_ok-walk-in-Quantified.ensures.names e)
    c.leave_to-in-Quantified.ensures

pub walk-returns-in_ok-call-in-Call-clause-found : goal.walk-returns-in_ok-call-in-Call-clause-found
walk-returns-in_ok-call-in-Call-clause-found t c =
    IfOk-weaker c.walk_all-in-Call.result _ _
    (λ u e. call_found c.args.functions.now c.args.node.now c.in-Call.offset c.in-Call.name c.in-Call.arguments c.as_slice-in-Call-2.result.now (open_in c.args.names.now)
    c.args.found.now c.call.new.self c.walk_all-in-Call.new.found c.get-callee.result c.len.result
    c.in-Call.is
    (c.get-callee.ensures ∙ ap (λ z. function_of c.args.functions.now z c.len.result) c.as_slice-in-Call.ensures)
    c.len.ensures c.in_ok-call-in-Call.ensures c.as_slice-in-Call-2.ensures e)
    c.walk_all-in-Call.ensures.found

pub walk_let-returns-clause-names : goal.walk_let-returns-clause-names
walk_let-returns-clause-names t c =
    IfOk-weaker c.enter_variable.result _ _ (λ u e. e ∙ ap (entered_variable c.args.bind.now.var) c.in_ok-walk.ensures.names) c.enter_variable.ensures

pub walk_quant-returns-clause-names : goal.walk_quant-returns-clause-names
walk_quant-returns-clause-names t c =
    IfOk-weaker c.enter_variable.result _ _ (λ u e. e ∙ ap (entered_variable c.args.bind.now.var) c.in_ok-walk.ensures.names) c.enter_variable.ensures
