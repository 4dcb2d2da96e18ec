use Rattle.core_normal.proofs.pieces.root.Goals as goal

pub returns : goal.returns
returns c = λ t. simp (c.in_ok-core.ensures, c.in_ok-test.ensures, c.in_ok-top.ensures, c.fail-other.ensures, c.dot-item.ensures, c.node_once-ty.ensures)
