use Rattle.std.proofs.Common.{subst}
use Rattle.core_normal.specs.Outcomes.{NormFails}
use Rattle.query_engine.proofs.Compiling.{core_fixed, too_large, resolved_gives}
use Rattle.query_engine.proofs.engine.compile_resolved.Goals as goal

pub compile_core-requires-clause-fixed : goal.compile_core-requires-clause-fixed
compile_core-requires-clause-fixed c = core_fixed c.args.pool.now c.args.query.now c.in-Ok.core c.requires.fixed c.requires.first c.in-Ok.ensures.core

pub returns-in-Err-TooLarge : goal.returns-in-Err-TooLarge
returns-in-Err-TooLarge c =
    too_large c.args.pool.now c.args.query.now c.in-Err-TooLarge.field-0-0 c.in-Err-TooLarge.field-0-1 (subst (NormFails c.args.query.now) c.in-Err-TooLarge.field-0-is c.in-Err-TooLarge.ensures.fault)

pub returns-in-Ok : goal.returns-in-Ok
returns-in-Ok c = resolved_gives c.args.pool.now c.args.query.now c.in-Ok.core c.compile_core.result c.requires.first c.in-Ok.ensures.core c.compile_core.ensures
