use Rattle.std.proofs.Common.{subst}
use Rattle.core_scope.specs.Leaves.{query_read}
use Rattle.core_scope.specs.Scoping.{Refuses}
use Rattle.query_engine.proofs.Compiling.{query_scoped, query_fixed, query_gives, scope_refused, first_later}
use Rattle.query_engine.proofs.engine.compile_query.Goals as goal

pub compile_resolved-requires-clause-scoped : goal.compile_resolved-requires-clause-scoped
compile_resolved-requires-clause-scoped c =
    query_scoped c.intern.new.self c.resolve.new.pool c.args.query.now c.in-Ok.resolved c.requires.read c.intern.ensures.first c.resolve.ensures.keeps c.in-Ok.ensures.resolved

pub compile_resolved-requires-clause-fixed : goal.compile_resolved-requires-clause-fixed
compile_resolved-requires-clause-fixed c = query_fixed c.resolve.new.pool (query_read c.args.query.now) c.in-Ok.resolved c.in-Ok.ensures.resolved

pub compile_resolved-requires-clause-first : goal.compile_resolved-requires-clause-first
compile_resolved-requires-clause-first c = first_later c.intern.new.self c.resolve.new.pool c.intern.ensures.first c.resolve.ensures.keeps

pub returns-in-Err-Refused-clause-core : goal.returns-in-Err-Refused-clause-core
returns-in-Err-Refused-clause-core c =
    rw c.in-Err-Refused.field-0-is (scope_refused (query_read c.args.query.now) c.in-Err-Refused.code c.in-Err-Refused.offset (subst (Refuses (query_read c.args.query.now)) c.in-Err-Refused.field-0-is c.in-Err-Refused.ensures.refused))

pub returns-in-Ok-clause-core : goal.returns-in-Ok-clause-core
returns-in-Ok-clause-core c =
    query_gives c.resolve.new.pool (query_read c.args.query.now) c.in-Ok.resolved c.compile_resolved.result c.in-Ok.ensures.resolved c.compile_resolved.ensures
