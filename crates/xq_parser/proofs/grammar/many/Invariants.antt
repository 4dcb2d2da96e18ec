use Rattle.std.proofs.Common.{◌≡◌, ℕ, [], length, ◌-◌}
use Rattle.xq_parser.specs.Parsers.{Parser, many_from}
use Rattle.xq_ast.specs.Look.{syms, stands_one}
use Rattle.xq_parser.specs.Outcomes.{Gives}
use Rattle.xq_parser.proofs.grammar.many.Given as goal

abbrev pub invariant-loop-turn : goal.invariant-loop-turn
invariant-loop-turn g l = (p : Parser _) → ((n : ℕ) (x : _) → goal.P-post g l.part n x → Gives (p n) x)
    → many_from (stands_one l.text (syms l.fn.due l.kinds)) p (length l.text) [] l.at ≡ many_from (stands_one l.text (syms l.fn.due l.kinds)) p (l._turn-end - l._turn) l.found l.end
