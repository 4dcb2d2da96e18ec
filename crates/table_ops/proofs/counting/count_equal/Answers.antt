use Rattle.std.proofs.Common.{◌^◌}
use Rattle.table_ops.proofs.CountedLaws.{equal_few}
use Rattle.table_ops.proofs.counting.count_equal.Goals as goal

pub returns-clause-few : goal.returns-clause-few
returns-clause-few c = equal_few c.args.index.now c.args.cell c.places.result.now (2 ^ 32) c.places.ensures c.requires
