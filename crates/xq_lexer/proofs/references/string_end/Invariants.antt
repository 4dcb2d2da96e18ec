use Rattle.std.proofs.Common.{◌≡◌, ◌≤◌, length, ◌-◌}
use Rattle.xq_ast.specs.Values.{string_from, string_end}
use Rattle.xq_lexer.proofs.references.string_end.Given as goal

abbrev pub invariant-loop-turn : goal.invariant-loop-turn
invariant-loop-turn l = (l.place ≤ length l.text) × (string_end l.text l.at ≡ string_from l.quote l.text (length l.text - l._turn) l.place)
