use Rattle.doc_table.proofs.NodeLaws.{one_reference}
use Rattle.doc_table.proofs.laws.one_reference.Goals as goal

pub returns : goal.returns
returns c = record { numbers = one_reference; texts = one_reference }
