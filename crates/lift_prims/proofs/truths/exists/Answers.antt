use Rattle.std.proofs.Common.{[], ◌∷◌, ◌++◌, ap, ◌∙◌}
use Rattle.core_meaning.specs.Expr.{Apply}
use Rattle.lift_laws.specs.States.{state_of}
use Rattle.lift_prims.specs.TruthForms.{any_form, exists_fun}
use Rattle.lift_prims.proofs.Over.{form_ok}
use Rattle.lift_prims.proofs.CallLaws.{plain_ok}
use Rattle.lift_prims.proofs.TruthLaws.{any_truth_made, exists_call}
use Rattle.lift_prims.proofs.truths.exists.Goals as goal

pub returns : goal.returns
returns c =
    plain_ok c.make.result c.args.plan.now c.make.new.plan c.args.looped (c.args.arg ∷ []) (Apply (exists_fun c.args.there))
    (λ docs texts site t m. exists_call c.args.there docs (state_of docs texts c.args.plan.now) (state_of docs texts c.make.new.plan) site c.args.looped c.args.arg t m)
    (form_ok c.make.result c.args.plan.now c.make.new.plan (c.args.looped ∷ c.args.arg ∷ []) (any_truth_made c.args.there) (c.requires.looped, (c.requires.arg, tt))
    (c.deref.ensures.value ∙ c.in_ok-form.ensures ∙ ap (λ x. x ++ c.truth_form.result) c.any_form.ensures ∙ ap (λ x. any_form ++ x) c.truth_form.ensures) c.make.ensures)
