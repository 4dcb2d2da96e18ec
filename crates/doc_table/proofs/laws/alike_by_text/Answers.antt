use Rattle.doc_table.proofs.ByTexts.{alike_by_text}
use Rattle.doc_table.proofs.laws.alike_by_text.Goals as goal

pub returns : goal.returns
returns c = alike_by_text
