use Rattle.core_normal.specs.Pieces.{selected}
use Rattle.core_normal.proofs.pieces.selected.Goals as goal

pub returns : goal.returns
unfolding selected
returns c = λ t. simp (c.in_ok-core.ensures, c.in_ok-counted.ensures, c.in_ok-each.ensures)
