use Rattle.doc_table.proofs.SetLaws.{sets_by_references}
use Rattle.doc_table.proofs.laws.sets_by_references.Goals as goal

pub returns : goal.returns
returns c = sets_by_references
