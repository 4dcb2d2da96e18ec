use Rattle.doc_table.proofs.StepLaws.{reached_together}
use Rattle.doc_table.proofs.laws.reached_together.Goals as goal

pub returns : goal.returns
returns c = record { numbers = reached_together; texts = reached_together }
