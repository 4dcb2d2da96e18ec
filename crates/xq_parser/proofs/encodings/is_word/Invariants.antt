use Rattle.std.proofs.Common.{◌≡◌, ◌-◌}
use Rattle.xq_ast.specs.Values.{value_from, string_value}
use Rattle.xq_parser.proofs.EncodingLaws.{is_lower}
use Rattle.xq_parser.proofs.encodings.is_word.Given as goal

abbrev pub invariant-loop-turn : goal.invariant-loop-turn
invariant-loop-turn l = is_lower (string_value l.text l.from l.to) l.word ≡ is_lower (value_from l.quote l.text (l.to - l._turn) l.at l.last) l.rest
