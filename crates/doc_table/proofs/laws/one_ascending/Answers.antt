use Rattle.doc_table.proofs.Ascending.{one_ascending}
use Rattle.doc_table.proofs.laws.one_ascending.Goals as goal

pub returns : goal.returns
returns c = record { numbers = one_ascending; texts = one_ascending; references = one_ascending }
