use Rattle.std.proofs.Common.{[], ◌∷◌, ◌∙◌}
use Rattle.core_meaning.specs.Expr.{CastableTo}
use Rattle.lift_laws.specs.States.{state_of}
use Rattle.lift_laws.proofs.Cases.{castable_lifts}
use Rattle.lift_prims.proofs.Over.{form_ok}
use Rattle.lift_prims.proofs.CallLaws.{plain_ok}
use Rattle.lift_prims.proofs.TruthLaws.{castable_made}
use Rattle.lift_prims.proofs.truths.castable.Goals as goal

pub returns : goal.returns
returns c =
    plain_ok c.make.result c.args.plan.now c.make.new.plan c.args.looped (c.args.arg ∷ []) (CastableTo c.args.kind c.args.optional)
    (λ docs texts site t m. castable_lifts docs (state_of docs texts c.args.plan.now) (state_of docs texts c.make.new.plan) site c.args.kind c.args.optional c.args.looped c.args.arg t m)
    (form_ok c.make.result c.args.plan.now c.make.new.plan (c.args.looped ∷ c.args.arg ∷ []) (castable_made c.args.kind c.args.optional) (c.requires.looped, (c.requires.arg, tt)) (c.deref.ensures.value ∙ c.in_ok-form.ensures) c.make.ensures)
