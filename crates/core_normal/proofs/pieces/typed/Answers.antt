use Rattle.core_normal.proofs.pieces.typed.Goals as goal

pub returns : goal.returns
returns c = λ t. simp (c.in_ok-core.ensures, c.in_ok-test.ensures, c.var.ensures, c.var-value.ensures, c.fail-other.ensures)
