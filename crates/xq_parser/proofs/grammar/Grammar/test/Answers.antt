use Rattle.std.proofs.Common.{rules}
use Rattle.xq_ast.specs.Paths as rule
use Rattle.xq_parser.proofs.grammar.Grammar.test.Goals as goal

pub returns-in_ok-at : goal.returns-in_ok-at
unfolding rule.test
returns-in_ok-at c = search rules

pub returns-in_err-at : goal.returns-in_err-at
unfolding rule.test
returns-in_err-at c = search rules

pub returns-in_ok-found : goal.returns-in_ok-found
unfolding rule.test
returns-in_ok-found c = search rules

pub returns-in_err-found : goal.returns-in_err-found
unfolding rule.test
returns-in_err-found c = search rules

pub returns-in_ok-found-2 : goal.returns-in_ok-found-2
unfolding rule.test
returns-in_ok-found-2 c = search rules

pub returns-in_err-found-2 : goal.returns-in_err-found-2
unfolding rule.test
returns-in_err-found-2 c = search rules

pub returns-else-begins_kind : goal.returns-else-begins_kind
unfolding rule.test
returns-else-begins_kind c = search rules
