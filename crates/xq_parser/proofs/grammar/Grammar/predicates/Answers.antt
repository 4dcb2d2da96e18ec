use Rattle.std.proofs.Common.{rules}
use Rattle.xq_ast.specs.Paths as rule
use Rattle.xq_parser.proofs.grammar.Grammar.predicates.Goals as goal

pub returns : goal.returns
unfolding rule.predicate
returns g c = c.many.ensures _ (λ n x h. search rules)
