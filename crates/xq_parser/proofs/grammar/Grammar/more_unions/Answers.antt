use Rattle.std.proofs.Common.{rules}
use Rattle.xq_ast.specs.Operators as rule
use Rattle.xq_parser.proofs.grammar.Grammar.more_unions.Goals as goal

pub returns : goal.returns
unfolding rule.times
returns g c = c.many.ensures _ (λ n x h. search rules)
