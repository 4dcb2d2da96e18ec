use Rattle.std.proofs.Common.{length}
use Rattle.xq_base.specs.Aggregates.{best_from}
use Rattle.xq_funs.specs.Answering.{atom_in}
use Rattle.table_ops.specs.Wholes.{atoms_in, beats}
use Rattle.table_ops.proofs.WholeLaws.{best_more, best_end, atom_held}
use Rattle.table_ops.proofs.wholes.find_best.Goals as goal

pub better-requires-clause-other : goal.better-requires-clause-other
better-requires-clause-other c = atom_held (length c.args.pool.now) c.args.rest.now c.loop-place.place _ c.loop-place-test.true c.requires.rest

pub loop-place-preserved : goal.loop-place-preserved
loop-place-preserved c = (
  best_more c.args.pool.now c.args.greatest c.args.rest.now c.loop-place.place c.loop-place.best (best_from (beats c.args.greatest) (atom_in c.args.pool.now c.args.best.now) (atoms_in c.args.pool.now c.args.rest.now)) _ c.better.result
      c.loop-place-test.true c.better.ensures.value c.loop-place.invariant.0,
  c.better.ensures.given,
)

pub returns-clause-value : goal.returns-clause-value
returns-clause-value c = best_end c.args.pool.now c.args.greatest c.args.rest.now c.loop-place.place c.loop-place.best (best_from (beats c.args.greatest) (atom_in c.args.pool.now c.args.best.now) (atoms_in c.args.pool.now c.args.rest.now)) c.loop-place-test.false c.loop-place.invariant.0
