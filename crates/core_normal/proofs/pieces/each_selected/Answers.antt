use Rattle.core_normal.proofs.pieces.each_selected.Goals as goal

pub returns : goal.returns
returns c = λ t. simp (c.in_ok-core.ensures, c.in_ok-kept.ensures, c.var-items.ensures)
