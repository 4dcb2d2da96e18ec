use Rattle.core_normal.proofs.calling.of_text.Goals as goal

pub returns : goal.returns
returns c = λ t. simp (c.in_ok-core.ensures, c.in_ok-text.ensures, c.dot-item.ensures)
