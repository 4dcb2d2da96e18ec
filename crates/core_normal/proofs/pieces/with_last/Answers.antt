use Rattle.core_normal.proofs.pieces.with_last.Goals as goal

pub returns : goal.returns
returns c = λ t. simp (c.in_ok-core.ensures, c.in_ok-count.ensures, c.var-items.ensures)
