use Rattle.doc_shred.proofs.Documents.{one_tree}
use Rattle.doc_shred.proofs.laws.one_tree.Goals as goal

pub returns : goal.returns
returns c = one_tree
