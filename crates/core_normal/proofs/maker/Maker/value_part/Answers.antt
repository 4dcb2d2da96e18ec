use Rattle.core_normal.proofs.ContentsMade.{run_value_made, brace_value_made}
use Rattle.core_normal.proofs.maker.Maker.value_part.Goals as goal

pub returns-in-Run : goal.returns-in-Run
returns-in-Run g c = run_value_made _ _ _ _ _ _ c.in-Run.is c.text-core.ensures

pub returns-in_ok-core-in-Brace : goal.returns-in_ok-core-in-Brace
returns-in_ok-core-in-Brace g c = brace_value_made _ _ _ _ _ _ _ _ c.in-Brace.is c.get-inner.ensures c.in_ok-value-in-Brace.ensures c.in_ok-core-in-Brace.ensures
