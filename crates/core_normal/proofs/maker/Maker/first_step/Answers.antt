use Rattle.std.proofs.lemmas.Result.{IfOk-weaker}
use Rattle.core_normal.proofs.StepsMade.{first_walk, first_primary}
use Rattle.core_normal.proofs.maker.Maker.first_step.Goals as goal

pub returns-in-Walk : goal.returns-in-Walk
returns-in-Walk g c = IfOk-weaker c.walk_here.result _ _ (λ core i. first_walk _ _ _ _ _ core c.in-Walk.is c.as_slice-conditions.ensures i) c.walk_here.ensures

pub returns-in-Primary : goal.returns-in-Primary
returns-in-Primary g c = IfOk-weaker c.filtered.result _ _ (λ core i. first_primary _ _ _ _ _ core c.in-Primary.is c.get-primary.ensures c.as_slice-conditions.ensures i) c.filtered.ensures
