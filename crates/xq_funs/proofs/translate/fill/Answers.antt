use Rattle.std.proofs.Common.{rules}
use Rattle.xq_funs.proofs.Replacing.{noted}
use Rattle.xq_funs.proofs.translate.fill.Goals as goal

pub loop-place-preserved : goal.loop-place-preserved
loop-place-preserved c =
    noted c.loop-place.table.entries c.note.new.table.entries _ c.args.from.now c.args.to.now c.loop-place.place c.index-from-place.result c.index-from-place.result c.at.result
    (search rules) (search rules) (search rules) (search rules) c.loop-place.invariant
