use Rattle.std.proofs.Common.{◌≡◌, drop}
use Rattle.xq_parser.specs.Encodings.{behind}
use Rattle.xq_parser.proofs.encodings.behind.Given as goal

abbrev pub invariant-loop-i : goal.invariant-loop-i
invariant-loop-i l = behind l.bytes l.word ≡ behind (drop l.i l.bytes) (drop l.i l.word)
