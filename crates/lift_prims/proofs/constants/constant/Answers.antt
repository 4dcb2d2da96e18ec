use Rattle.std.proofs.Common.{[]}
use Rattle.core_meaning.specs.Expr.{Apply}
use Rattle.lift_laws.specs.States.{state_of}
use Rattle.lift_prims.specs.TruthForms.{constant_fun}
use Rattle.lift_prims.proofs.CallLaws.{plain_ok}
use Rattle.lift_prims.proofs.TruthLaws.{constant_call}
use Rattle.lift_prims.proofs.constants.constant.Goals as goal

pub returns : goal.returns
returns c =
    plain_ok c.literal.result c.args.plan.now c.literal.new.plan c.args.looped [] (Apply (constant_fun c.args.value))
    (λ docs texts site t m. constant_call c.args.value docs (state_of docs texts c.args.plan.now) (state_of docs texts c.literal.new.plan) site c.args.looped t m) c.literal.ensures
