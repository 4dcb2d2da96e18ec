use Rattle.doc_table.proofs.RowTexts.{known_by_row}
use Rattle.doc_table.proofs.laws.known_by_row.Goals as goal

pub returns : goal.returns
returns c = known_by_row
