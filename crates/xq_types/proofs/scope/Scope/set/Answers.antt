use Rattle.xq_types.proofs.Scoping.{types_set}
use Rattle.xq_types.proofs.scope.Scope.set.Goals as goal

pub returns-clause-ok : goal.returns-clause-ok
returns-clause-ok c = types_set c.args.self.now (record { alloc = c.args.self.now.alloc; types = c.insert.new.self }) _ _ c.in_ok-insert.ensures.updates.0
