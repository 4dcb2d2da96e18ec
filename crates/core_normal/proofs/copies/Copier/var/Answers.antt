use Rattle.core_normal.proofs.copies.Copier.var.Goals as goal

pub returns : goal.returns
returns g c = λ t. simp (c.var.ensures, c.in_ok-y.ensures)
