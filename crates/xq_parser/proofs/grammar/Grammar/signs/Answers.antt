use Rattle.std.proofs.Common.{rules}
use Rattle.xq_ast.specs.Operators as rule
use Rattle.xq_parser.proofs.grammar.Grammar.signs.Goals as goal

pub returns : goal.returns
unfolding rule.one_sign
returns g c = c.many.ensures _ (λ n x h. search rules)
