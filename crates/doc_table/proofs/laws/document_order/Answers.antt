use Rattle.doc_table.proofs.NodeLaws.{document_order}
use Rattle.doc_table.proofs.laws.document_order.Goals as goal

pub returns : goal.returns
returns c = record { numbers = document_order; texts = document_order }
