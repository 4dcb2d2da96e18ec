use Rattle.std.proofs.Common.{rules}
use Rattle.xq_parser.proofs.grammar.Grammar.more_comparisons.Goals as goal

pub returns : goal.returns
returns g c = c.many.ensures _ (λ n x h. search rules)
