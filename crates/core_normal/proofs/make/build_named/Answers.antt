use Rattle.core_normal.proofs.make.build_named.Goals as goal

pub returns : goal.returns
returns c = λ t. simp (c.named-core.ensures, c.in_ok-boxed.ensures, c.in_ok-inside.ensures)
