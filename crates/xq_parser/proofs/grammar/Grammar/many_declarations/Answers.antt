use Rattle.std.proofs.Common.{rules}
use Rattle.xq_ast.specs.Grammar as rule
use Rattle.xq_parser.proofs.grammar.Grammar.many_declarations.Goals as goal

pub returns : goal.returns
unfolding rule.declaration
returns g c = c.many.ensures _ (λ n x h. search rules)
