use Rattle.core_normal.proofs.copies.Copier.for_each.Goals as goal

pub returns : goal.returns
returns g c = λ t. simp (c.in_ok-copy.ensures, c.in_ok-x.ensures, c.in_ok-place.ensures, c.in_ok-seq.ensures, c.in_ok-body.ensures)
