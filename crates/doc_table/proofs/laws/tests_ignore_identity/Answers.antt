use Rattle.doc_table.proofs.StepLaws.{tests_ignore_identity}
use Rattle.doc_table.proofs.laws.tests_ignore_identity.Goals as goal

pub returns : goal.returns
returns c = record { numbers = tests_ignore_identity; texts = tests_ignore_identity }
