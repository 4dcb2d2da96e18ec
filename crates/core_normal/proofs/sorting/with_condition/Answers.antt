use Rattle.core_normal.proofs.SortsMade.{lead_more}
use Rattle.core_normal.proofs.sorting.with_condition.Goals as goal

pub returns : goal.returns
returns c = λ t more. lead_more t _ _ _ _ c.in_ok-push.ensures.ok (c.in_ok-bind.ensures t) more
