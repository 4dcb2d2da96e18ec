use Rattle.std.proofs.Common.{◌≡◌, ◌++◌, ◌-◌}
use Rattle.xq_ast.specs.Values.{value_from, string_value}
use Rattle.xq_parser.proofs.strings.string_value.Given as goal

abbrev pub invariant-loop-turn : goal.invariant-loop-turn
invariant-loop-turn l = l.found.items ++ value_from l.quote l.text (l.to - l._turn) l.at l.last ≡ string_value l.text l.from l.to
