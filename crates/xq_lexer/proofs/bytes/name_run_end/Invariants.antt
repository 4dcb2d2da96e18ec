use Rattle.std.proofs.Common.{◌≡◌, ◌≤◌, length, ◌-◌}
use Rattle.xq_ast.specs.Bytes.{char_ends, chars_end}
use Rattle.xq_lexer.specs.Classes.{name_test}
use Rattle.xq_lexer.proofs.bytes.name_run_end.Given as goal

abbrev pub invariant-loop-turn : goal.invariant-loop-turn
invariant-loop-turn l = (l.at ≤ l.place) × (l.place ≤ length l.text) × (chars_end (name_test l.with_colon) l.text l.at ≡ char_ends (name_test l.with_colon) l.text (length l.text - l._turn) l.place)
