use Rattle.core_normal.proofs.copies.Copier.choice.Goals as goal

pub returns : goal.returns
returns g c = λ t. simp (c.in_ok-copy.ensures, c.in_ok-condition.ensures, c.in_ok-yes.ensures, c.in_ok-no.ensures)
