use Rattle.std.proofs.Common.{sym, subst, refl, IsPermutation}
use Rattle.staircase.specs.Tasks.{Finds}
use Rattle.staircase.proofs.HitGains.{gains-step, gains-whole}
use Rattle.staircase.proofs.tasks.do_tasks.Goals as goal

pub loop-task-preserved : goal.loop-task-preserved
loop-task-preserved c =
    let w = c.in_ok-before.ensures c.loop-task.invariant.all in
    record {
      done = gains-step (Finds c.args.seen.now c.args.counting) c.as_slice-task-items.result.now c.loop-task.task-index _ _ c.args.hits.now.items c.loop-task.hits.items c.go_on.new.hits.items c.loop-task-test.true refl c.loop-task.invariant.done w.adds;
      all = w.all;
    }

pub returns : goal.returns
returns c =
    gains-whole (Finds c.args.seen.now c.args.counting) c.args.tasks.now.items c.as_slice-task-items.result.now c.loop-task.task-index c.args.hits.now.items c.loop-task.hits.items (subst (λ z. IsPermutation c.args.tasks.now.items z) (sym c.as_slice-task-items.ensures.value) c.sort_unstable_by.ensures.permutation) c.loop-task-test.false c.loop-task.invariant.done
