use Rattle.core_normal.proofs.Valued.{values_set}
use Rattle.core_normal.proofs.vars.Vars.set.Goals as goal

pub returns : goal.returns
returns c = values_set c.args.self.now (record { alloc = c.args.self.now.alloc; known = c.insert.new.self }) _ _ c.in_ok-insert.ensures.updates.0
