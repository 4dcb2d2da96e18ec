use Rattle.std.proofs.Common.{◌∷◌, [], sym, subst}
use Rattle.doc_table.specs.Functions.{fun_answer}
use Rattle.xq_funs.specs.Calls.{RuleGives, singles, gives_text}
use Rattle.xq_funs.proofs.rules.apply_three.Goals as goal

pub returns-in-Substring : goal.returns-in-Substring
returns-in-Substring c = λ docs. subst (λ g. RuleGives (gives_text g) c.args.pool.now (fun_answer docs g (singles c.args.pool.now (c.args.a ∷ c.args.b ∷ c.args.c ∷ []))) c.call_substring.result) (sym c.in-Substring.is) (c.call_substring.ensures docs)

pub returns-in-Translate : goal.returns-in-Translate
returns-in-Translate c = λ docs. subst (λ g. RuleGives (gives_text g) c.args.pool.now (fun_answer docs g (singles c.args.pool.now (c.args.a ∷ c.args.b ∷ c.args.c ∷ []))) c.call_translate.result) (sym c.in-Translate.is) (c.call_translate.ensures docs)
