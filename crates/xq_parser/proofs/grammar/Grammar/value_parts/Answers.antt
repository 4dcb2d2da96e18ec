use Rattle.std.proofs.Common.{rules}
use Rattle.xq_ast.specs.Direct as rule
use Rattle.xq_parser.proofs.grammar.Grammar.value_parts.Goals as goal

pub returns : goal.returns
unfolding rule.value_part
returns g c = c.many.ensures _ (λ n x h. search rules)
