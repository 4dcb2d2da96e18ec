use Rattle.core_normal.proofs.copies.Copier.build_named.Goals as goal

pub returns : goal.returns
returns g c = λ t. simp (c.in_ok-copy.ensures, c.in_ok-called.ensures, c.in_ok-inside.ensures)
