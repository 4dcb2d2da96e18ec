use Rattle.doc_table.proofs.SetLaws.{ordered_by_references}
use Rattle.doc_table.proofs.laws.ordered_by_references.Goals as goal

pub returns : goal.returns
returns c = ordered_by_references
