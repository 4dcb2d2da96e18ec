use Rattle.core_normal.proofs.pieces.over_node.Goals as goal

pub returns : goal.returns
returns c = λ t. simp (c.in_ok-core.ensures, c.in_ok-test.ensures, c.var-value.ensures, c.node_once-ty.ensures, c.fail-other.ensures)
