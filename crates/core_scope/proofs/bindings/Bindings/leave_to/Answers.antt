use Rattle.std.proofs.Common.{sym, ◌∙◌, arith}
use Rattle.std.proofs.lemmas.Grind.{common_steps}
use Rattle.core_scope.specs.Open.{open_in}
use Rattle.core_scope.proofs.Opening.{left_done}
use Rattle.core_scope.proofs.bindings.Bindings.leave_to.Goals as goal

pub returns : goal.returns
returns c =
    sym (left_done c.args.mark (open_in c.loop-self.self) (grind (arith, common_steps, c.loop-self-test.false))) ∙ c.loop-self.invariant
