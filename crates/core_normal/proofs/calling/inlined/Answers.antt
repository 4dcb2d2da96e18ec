use Rattle.core_normal.proofs.calling.inlined.Goals as goal

pub returns : goal.returns
returns c = λ t. simp (c.in_ok-core.ensures, c.in_ok-body.ensures, c.in_ok-copy.ensures)
