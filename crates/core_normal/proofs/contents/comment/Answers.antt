use Rattle.core_normal.proofs.contents.comment.Goals as goal

pub returns : goal.returns
returns c = λ t. simp (c.in_ok-core.ensures, c.text-inside.ensures)
