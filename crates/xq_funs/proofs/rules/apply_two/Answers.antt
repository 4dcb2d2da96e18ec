use Rattle.std.proofs.Common.{◌∷◌, [], sym, subst}
use Rattle.doc_table.specs.Functions.{fun_answer}
use Rattle.xq_funs.specs.Calls.{RuleGives, singles, gives_text}
use Rattle.xq_funs.proofs.rules.apply_two.Goals as goal

pub returns-in-Substring : goal.returns-in-Substring
returns-in-Substring c = λ docs. subst (λ g. RuleGives (gives_text g) c.args.pool.now (fun_answer docs g (singles c.args.pool.now (c.args.a ∷ c.args.b ∷ []))) c.call_substring_from.result) (sym c.in-Substring.is) (c.call_substring_from.ensures docs)
