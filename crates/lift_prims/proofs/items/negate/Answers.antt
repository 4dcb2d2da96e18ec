use Rattle.std.proofs.Common.{[], ◌∷◌, refl, ap, ◌∙◌}
use Rattle.xq_base.specs.declared.code.Code.TheVariants as k
use Rattle.xq_base.specs.declared.fun.Fun.TheVariants as f
use Rattle.lift_laws.specs.Stages.{Negates}
use Rattle.lift_prims.proofs.CallLaws.{form_at}
use Rattle.lift_prims.proofs.ItemLaws.{item_ok, unfit_made, item_fails_made, unfit_mark, fails_mark}
use Rattle.lift_prims.proofs.items.negate.Goals as goal

pub returns : goal.returns
returns c =
    item_ok c.make_call.result c.args.plan.now c.make_call.new.plan c.args.looped c.args.arg Negates c.args.offset _ (unfit_mark f.Negate ∷ fails_mark f.Negate k.FORG0001 ∷ fails_mark f.Negate k.FOAR0002 ∷ []) refl c.item_value_form.ensures
    (refl, form_at c.unfit_form.ensures (unfit_made f.Negate refl), (refl, form_at c.item_fails_form.ensures (item_fails_made f.Negate k.FORG0001 refl), (refl, form_at c.item_fails_form-2.ensures (item_fails_made f.Negate k.FOAR0002 refl), tt))) (λ docs texts l a. refl) c.requires.looped c.requires.arg c.make_call.ensures
