use Rattle.std.proofs.Common.{◌∙◌}
use Rattle.table_ops.proofs.Keying.{absent_place}
use Rattle.table_ops.proofs.keys.place.Goals as goal

pub returns-in-None-clause-place : goal.returns-in-None-clause-place
returns-in-None-clause-place g c = c.len.ensures.len ∙ absent_place g.T.PartialEq.eq c.args.table.now.keys c.args.value.now c.in-None.ensures.index
