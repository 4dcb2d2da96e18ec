use Rattle.doc_shred.proofs.Depths.{FromHere}
use Rattle.doc_shred.proofs.depth.is_too_deep.Given as goal

abbrev pub invariant-loop-pre : goal.invariant-loop-pre
invariant-loop-pre l = FromHere l.fragment l.pre
