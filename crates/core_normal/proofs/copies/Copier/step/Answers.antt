use Rattle.core_normal.proofs.copies.Copier.step.Goals as goal

pub returns : goal.returns
returns g c = λ t. simp (c.in_ok-copy.ensures, c.in_ok-part.ensures)
