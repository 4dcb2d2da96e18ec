use Rattle.std.proofs.Common.{◌≡◌, ◌≤◌, length, ◌-◌}
use Rattle.xq_ast.specs.Bytes.{ends}
use Rattle.xq_lexer.specs.Classes.{class_test}
use Rattle.xq_ast.specs.Bytes as spec
use Rattle.xq_lexer.proofs.bytes.run_end.Given as goal

abbrev pub invariant-loop-i : goal.invariant-loop-i
invariant-loop-i l = spec.run_end (class_test l.class) l.text l.at ≡ ends (class_test l.class) l.text (length l.text - l.i) l.i
