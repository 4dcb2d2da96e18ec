use Rattle.std.proofs.Common.{[], ◌∷◌}
use Rattle.xq_base.specs.declared.fun.Fun.TheVariants as f
use Rattle.core_meaning.specs.Expr.{Apply}
use Rattle.lift_laws.specs.States.{state_of}
use Rattle.lift_laws.proofs.Cases.{data_lifts}
use Rattle.lift_prims.proofs.Over.{form_ok}
use Rattle.lift_prims.proofs.CallLaws.{plain_ok}
use Rattle.lift_prims.proofs.CountLaws.{data_made}
use Rattle.lift_prims.proofs.counts.data.Goals as goal

pub returns : goal.returns
returns c =
    plain_ok c.make.result c.args.plan.now c.make.new.plan c.args.looped (c.args.arg ∷ []) (Apply f.Data)
    (λ docs texts site t m. data_lifts docs (state_of docs texts c.args.plan.now) (state_of docs texts c.make.new.plan) site c.args.looped c.args.arg t m)
    (form_ok c.make.result c.args.plan.now c.make.new.plan (c.args.looped ∷ c.args.arg ∷ []) data_made (c.requires.looped, (c.requires.arg, tt)) c.item_value_form.ensures c.make.ensures)
