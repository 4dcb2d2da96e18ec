use Rattle.std.proofs.Common.{rules}
use Rattle.xq_ast.specs.Direct as rule
use Rattle.xq_parser.proofs.grammar.Grammar.many_attributes.Goals as goal

pub returns : goal.returns
unfolding rule.attribute
returns g c = c.many.ensures _ (λ n x h. search rules)
