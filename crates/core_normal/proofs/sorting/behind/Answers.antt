use Rattle.std.proofs.Common.{◌∙◌}
use Rattle.core_normal.proofs.SortsMade.{lead_more}
use Rattle.core_normal.proofs.sorting.behind.Goals as goal

pub returns : goal.returns
returns c = λ t more. c.in_ok-all.ensures t more ∙ lead_more t _ _ _ _ c.in_ok-push.ensures.ok (c.in_ok-bind.ensures t) _
