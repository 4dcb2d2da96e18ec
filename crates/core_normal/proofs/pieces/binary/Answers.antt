use Rattle.core_normal.proofs.pieces.binary.Goals as goal

pub returns : goal.returns
returns c = λ t. simp (c.in_ok-core.ensures, c.in_ok-b.ensures, c.in_ok-a.ensures, c.fun_of.ensures)
