use Rattle.core_normal.proofs.PrologMade.{global_round}
use Rattle.core_normal.proofs.prolog.with_global.Goals as goal

pub returns : goal.returns
returns c = λ t. global_round t _ _ _ _ c.args.global c.args.e _ _ c.in_ok-j.ensures c.in_ok-vars.ensures.0 c.in_ok-vars.ensures.1 (c.in_ok-inner.ensures t) (c.in_ok-core.ensures t)
