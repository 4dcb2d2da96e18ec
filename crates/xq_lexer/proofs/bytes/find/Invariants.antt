use Rattle.std.proofs.Common.{◌≡◌, length, ◌-◌}
use Rattle.xq_ast.specs.Bytes.{found, find}
use Rattle.xq_lexer.proofs.bytes.find.Given as goal

abbrev pub invariant-loop-i : goal.invariant-loop-i
invariant-loop-i l = find l.word l.text l.at ≡ found l.word l.text (length l.text - l.i) l.i
