use Rattle.core_normal.proofs.ContentsMade.{space_made, run_made, inner_made, brace_made}
use Rattle.core_normal.proofs.maker.Maker.part.Goals as goal

pub returns-then-run : goal.returns-then-run
returns-then-run g c = space_made _ _ _ _ _ _ _ c.in-Run.is c.if-run.true

pub returns-in_ok-core-in-Run : goal.returns-in_ok-core-in-Run
returns-in_ok-core-in-Run g c = run_made _ _ _ _ _ _ _ _ _ c.in-Run.is c.if-run.false c.in_ok-node-in-Run.ensures c.in_ok-core-in-Run.ensures

pub returns-in_ok-core-in-Brace : goal.returns-in_ok-core-in-Brace
returns-in_ok-core-in-Brace g c = brace_made _ _ _ _ _ _ _ _ _ _ _ c.in-Brace.is c.get-inner.ensures c.in_ok-value-in-Brace.ensures c.in_ok-all-in-Brace.ensures c.in_ok-core-in-Brace.ensures

pub returns-in_ok-core-in-Inner : goal.returns-in_ok-core-in-Inner
returns-in_ok-core-in-Inner g c = inner_made _ _ _ _ _ _ _ _ _ c.in-Inner.is c.get-inner-in-Inner.ensures c.in_ok-value-in-Inner.ensures c.in_ok-core-in-Inner.ensures
