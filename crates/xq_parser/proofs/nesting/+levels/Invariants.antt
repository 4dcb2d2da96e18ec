use Rattle.xq_parser.proofs.nesting.+levels.Given as goal

abbrev pub decreases-single : goal.decreases-single
decreases-single l = l.depth

abbrev pub decreases-element : goal.decreases-element
decreases-element l = l.depth
