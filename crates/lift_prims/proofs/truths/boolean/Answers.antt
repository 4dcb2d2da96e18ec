use Rattle.std.proofs.Common.{◌≡◌, [], ◌∷◌, ◌++◌, refl, ap, ◌∙◌, arith}
use Rattle.core_meaning.specs.Expr.{Apply}
use Rattle.lift_laws.specs.States.{state_of}
use Rattle.lift_laws.specs.Stages.{boolean_fun}
use Rattle.lift_laws.proofs.Cases.{booleans_lift}
use Rattle.lift_prims.specs.TruthForms.{head_form, true_form}
use Rattle.lift_prims.proofs.CallLaws.{form_at, call_fits, call_ok}
use Rattle.lift_prims.proofs.TruthLaws.{head_truth_made, mixed_mark, mixed_made, mixed_bound}
use Rattle.lift_prims.proofs.truths.boolean.Goals as goal

pub make_call-requires : goal.make_call-requires
make_call-requires c =
    call_fits c.args.plan.now c.args.looped (c.args.looped ∷ c.args.arg ∷ []) (mixed_mark ∷ []) mixed_bound (head_truth_made c.args.there)
    (c.deref-2.ensures.value ∙ c.in_ok-values.ensures ∙ ap (λ x. x ++ c.truth_form.result) (c.deref.ensures.value ∙ c.in_ok-first.ensures ∙ ap (λ x. x ++ c.true_form.result) c.head_form.ensures ∙ ap (λ x. head_form ++ x) c.true_form.ensures) ∙ ap (λ x. (head_form ++ true_form) ++ x) c.truth_form.ensures)
    (refl, form_at (c.deref-3.ensures.value ∙ c.in_ok-mixed.ensures ∙ ap (λ x. x ++ c.mixed_form.result) c.head_form-2.ensures ∙ ap (λ x. head_form ++ x) c.mixed_form.ensures) mixed_made, tt) refl c.requires.looped (c.requires.looped, (c.requires.arg, tt))

pub returns : goal.returns
returns c =
    call_ok c.make_call.result c.args.plan.now c.make_call.new.plan c.args.looped (c.args.looped ∷ c.args.arg ∷ []) (c.args.arg ∷ []) (Apply (boolean_fun c.args.there)) c.args.offset (mixed_mark ∷ []) mixed_bound (head_truth_made c.args.there)
    (c.deref-2.ensures.value ∙ c.in_ok-values.ensures ∙ ap (λ x. x ++ c.truth_form.result) (c.deref.ensures.value ∙ c.in_ok-first.ensures ∙ ap (λ x. x ++ c.true_form.result) c.head_form.ensures ∙ ap (λ x. head_form ++ x) c.true_form.ensures) ∙ ap (λ x. (head_form ++ true_form) ++ x) c.truth_form.ensures)
    (refl, form_at (c.deref-3.ensures.value ∙ c.in_ok-mixed.ensures ∙ ap (λ x. x ++ c.mixed_form.result) c.head_form-2.ensures ∙ ap (λ x. head_form ++ x) c.mixed_form.ensures) mixed_made, tt) refl c.requires.looped (c.requires.looped, (c.requires.arg, tt)) (λ docs texts. omega arith)
    (λ docs texts s1 s2 site t cs m st. booleans_lift docs (state_of docs texts c.args.plan.now) s1 s2 site c.args.there c.args.looped c.args.arg t cs m st) c.make_call.ensures
