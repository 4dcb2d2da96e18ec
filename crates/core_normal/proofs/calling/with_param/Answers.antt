use Rattle.core_normal.proofs.CallsMade.{param_made}
use Rattle.core_normal.proofs.calling.with_param.Goals as goal

pub returns-in_ok-core-in-Some-type_at : goal.returns-in_ok-core-in-Some-type_at
returns-in_ok-core-in-Some-type_at c = λ t.
    param_made t c.args.offset c.args.moving.base c.args.moving.by _ _ _ _ _ c.args.arg c.args.e _ _ c.in-Some.ensures c.in-Some-type_at.ensures c.in_ok-var-in-Some-type_at.ensures
    (c.in_ok-value-in-Some-type_at.ensures t) (c.in_ok-core-in-Some-type_at.ensures t)
