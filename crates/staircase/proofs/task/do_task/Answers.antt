use Rattle.staircase.proofs.TaskLaws.{adds-found, found-end}
use Rattle.staircase.proofs.task.do_task.Goals as goal

pub returns : goal.returns
returns c = λ r. adds-found c.args.seen.now c.part-s-items.result.now c.args.counting c.args.task c.args.hits.now.items c.loop-s.hits.items (c.part-s-items.ensures r)
    (found-end c.args.counting c.args.task c.loop-s.hits.items c.args.hits.now.items c.loop-s.s-index c.part-s-items.result.now c.loop-s.invariant c.loop-s-test.false)
