use Rattle.std.proofs.Common.{rules}
use Rattle.xq_ast.specs.Grammar as rule
use Rattle.xq_parser.proofs.grammar.Grammar.setters.Goals as goal

pub returns : goal.returns
unfolding rule.setter
returns g c = c.many.ensures _ (λ n x h. search rules)
