use Rattle.lift_laws.proofs.Cases.{checks_answer}
use Rattle.lift_laws.proofs.laws.checks_answer.Goals as goal

pub returns : goal.returns
returns c = checks_answer
