use Rattle.std.proofs.Common.{subst}
use Rattle.xq_types.specs.TypeOf.{Tells}
use Rattle.query_engine.proofs.Compiling.{core_untyped, typed_accepted, typed_left}
use Rattle.query_engine.proofs.engine.compile_core.Goals as goal

pub returns-in-Err-Refused : goal.returns-in-Err-Refused
returns-in-Err-Refused c = core_untyped c.args.pool.now c.args.core c.in-Err-Refused.offset (subst (Tells c.args.core) c.in-Err-Refused.field-0-is c.in-Err-Refused.ensures.refused)

pub returns-then-is_evaluated : goal.returns-then-is_evaluated
returns-then-is_evaluated c =
    typed_accepted c.args.pool.now c.args.core c.in-Ok.typed c.core.result.now c.is_evaluated.result c.in-Ok.ensures.core c.core.ensures.core c.in-Ok.ensures.accepted c.requires.fixed c.is_evaluated.ensures c.if-is_evaluated.true

pub returns-else-is_evaluated : goal.returns-else-is_evaluated
returns-else-is_evaluated c =
    typed_left c.args.pool.now c.args.core c.in-Ok.typed c.core.result.now c.is_evaluated.result c.in-Ok.ensures.core c.core.ensures.core c.in-Ok.ensures.accepted c.is_evaluated.ensures c.if-is_evaluated.false
