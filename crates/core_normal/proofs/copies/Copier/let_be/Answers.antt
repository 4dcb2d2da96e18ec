use Rattle.core_normal.proofs.copies.Copier.let_be.Goals as goal

pub returns : goal.returns
returns g c = λ t. simp (c.in_ok-copy.ensures, c.in_ok-y.ensures, c.in_ok-value.ensures, c.in_ok-body.ensures)
