use Rattle.std.proofs.Common.{rules}
use Rattle.xq_ast.specs.Bindings as rule
use Rattle.xq_parser.proofs.grammar.Grammar.more_clauses.Goals as goal

pub returns : goal.returns
unfolding rule.clause rule.let_clause
returns g c = c.many.ensures _ (λ n x h. search rules)
