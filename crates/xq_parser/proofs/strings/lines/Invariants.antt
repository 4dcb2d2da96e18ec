use Rattle.xq_parser.proofs.LineLaws.{Joins}
use Rattle.xq_parser.proofs.strings.lines.Given as goal

abbrev pub invariant-loop-byte : goal.invariant-loop-byte
invariant-loop-byte l = Joins l.found.items l.after l.bytes l.byte-index
