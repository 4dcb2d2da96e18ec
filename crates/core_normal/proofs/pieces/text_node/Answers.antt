use Rattle.core_normal.proofs.pieces.text_node.Goals as goal

pub returns : goal.returns
returns c = λ t. simp (c.in_ok-core.ensures, c.literal-content.ensures)
