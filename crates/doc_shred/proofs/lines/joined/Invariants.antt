use Rattle.doc_shred.proofs.LineLaws.{Joins}
use Rattle.doc_shred.proofs.lines.joined.Given as goal

abbrev pub invariant-loop-byte : goal.invariant-loop-byte
invariant-loop-byte l = Joins l.out.items l.after l.bytes l.byte-index
