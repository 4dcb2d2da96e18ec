use Rattle.core_normal.proofs.pieces.each_ordered.Goals as goal

pub returns : goal.returns
returns c = λ t. simp (c.in_ok-core.ensures, c.in_ok-each.ensures, c.in_ok-body.ensures, c.var-items.ensures)
