use Rattle.doc_table.proofs.StepLaws.{step_by_numbers}
use Rattle.doc_table.proofs.laws.step_by_numbers.Goals as goal

pub returns : goal.returns
returns c = step_by_numbers
