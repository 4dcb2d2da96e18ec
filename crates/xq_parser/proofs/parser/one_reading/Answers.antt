use Rattle.xq_parser.proofs.Query.{one_tree, one_cut, tree_or_cut}
use Rattle.xq_parser.proofs.parser.one_reading.Goals as goal

pub returns-clause-tree : goal.returns-clause-tree
returns-clause-tree c = one_tree

pub returns-clause-cut : goal.returns-clause-cut
returns-clause-cut c = one_cut

pub returns-clause-both : goal.returns-clause-both
returns-clause-both c = tree_or_cut
