use Rattle.core_normal.proofs.Copied.{call_moved}
use Rattle.core_normal.proofs.copies.Copier.call.Goals as goal

pub returns : goal.returns
returns g c = λ t. call_moved _ _ t _ _ _ _ _ (c.in_ok-copies.ensures t) (c.called.ensures t)
