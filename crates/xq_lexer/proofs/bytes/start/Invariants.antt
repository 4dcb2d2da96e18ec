use Rattle.std.proofs.Common.{◌≡◌, ◌≤◌, length, ◌-◌}
use Rattle.xq_ast.specs.Bytes.{start, skip_from}
use Rattle.xq_lexer.specs.Classes.{IsSkip}
use Rattle.xq_lexer.proofs.bytes.start.Given as goal

abbrev pub invariant-loop-turn : goal.invariant-loop-turn
invariant-loop-turn l = IsSkip l.text l.skip × (start l.text l.at ≡ skip_from l.text (length l.text - l._turn) l.skip)
