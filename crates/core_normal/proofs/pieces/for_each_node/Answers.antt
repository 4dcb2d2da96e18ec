use Rattle.core_normal.proofs.pieces.for_each_node.Goals as goal

pub returns : goal.returns
returns c = λ t. simp (c.in_ok-core.ensures, c.in_ok-counted.ensures, c.in_ok-each.ensures)
