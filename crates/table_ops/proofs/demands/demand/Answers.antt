use Rattle.xq_funs.proofs.Later.{keeps_on}
use Rattle.table_ops.proofs.AggregateLaws.{once_before}
use Rattle.table_ops.proofs.demands.demand.Goals as goal

pub returns-clause-rows : goal.returns-clause-rows
returns-clause-rows c = c.in_ok-rows.ensures.rows (once_before c.args.pool.now c.tell_apart.new.pool (keeps_on c.args.pool.now c.count_rows.new.pool c.tell_apart.new.pool c.count_rows.ensures.keeps c.tell_apart.ensures.keeps) c.in_ok-tell_apart.ensures.different)
