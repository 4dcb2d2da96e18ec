use Rattle.core_normal.proofs.pieces.chosen.Goals as goal

pub returns : goal.returns
returns c = λ t. simp (c.in_ok-core.ensures, c.in_ok-test.ensures, c.in_ok-here.ensures, c.in_ok-holds.ensures, c.var.ensures, c.var-2.ensures, c.var-3.ensures, c.var-4.ensures, c.integer_once.ensures)
