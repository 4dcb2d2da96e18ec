use Rattle.doc_table.proofs.SetLaws.{root_reference}
use Rattle.doc_table.proofs.laws.root_reference.Goals as goal

pub returns : goal.returns
returns c = record { numbers = root_reference; texts = root_reference }
