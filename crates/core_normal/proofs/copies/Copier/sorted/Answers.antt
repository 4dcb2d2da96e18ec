use Rattle.core_normal.proofs.Copied.{sorted_moved}
use Rattle.core_normal.proofs.copies.Copier.sorted.Goals as goal

pub returns : goal.returns
returns g c = λ t. sorted_moved _ _ t _ _ _ _ _ _ _ _ (c.in_ok-turns.ensures t) (c.in_ok-order.ensures t) (c.in_ok-value.ensures t) (c.in_ok-copy.ensures t)
