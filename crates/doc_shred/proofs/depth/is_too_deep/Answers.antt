use Rattle.doc_shred.proofs.Depths.{rows_deep}
use Rattle.doc_shred.proofs.depth.is_too_deep.Goals as goal

pub loop-pre-init : goal.loop-pre-init
loop-pre-init c = rows_deep c.args.fragment.now
