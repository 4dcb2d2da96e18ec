use Rattle.std.proofs.Common.{rules}
use Rattle.xq_ast.specs.Paths as rule
use Rattle.xq_parser.proofs.grammar.Grammar.more_steps.Goals as goal

pub returns : goal.returns
unfolding rule.slashes rule.two
returns g c = c.many.ensures _ (λ n x h. search rules)
