use Rattle.std.proofs.Common.{◌≡◌, drop, ◌+◌}
use Rattle.xq_ast.specs.Bytes.{follows}
use Rattle.xq_lexer.proofs.bytes.follows.Given as goal

abbrev pub invariant-loop-i : goal.invariant-loop-i
invariant-loop-i l = follows l.word l.text l.at ≡ follows (drop l.i l.word) l.text (l.at + l.i)
