use Rattle.doc_shred.proofs.Runs.{Searched}
use Rattle.doc_shred.proofs.markup.before_first.Given as goal

abbrev pub invariant-loop-at : goal.invariant-loop-at
invariant-loop-at l = Searched l.word l.bytes l.at
