use Rattle.core_normal.proofs.pieces.kept.Goals as goal

pub returns : goal.returns
returns c = λ t. simp (c.in_ok-core.ensures, c.in_ok-kept.ensures, c.in_ok-test.ensures, c.var-item.ensures, c.empty-nothing.ensures)
