use Rattle.std.proofs.Common.{◌∷◌, [], sym, subst}
use Rattle.xq_base.specs.Answers.{with_value}
use Rattle.doc_table.specs.Values.{item_of_atom}
use Rattle.xq_funs.specs.Calls.{RuleGives, gives_text}
use Rattle.xq_funs.specs.TextCalls.{of_text}
use Rattle.xq_funs.proofs.texts.text_value.Goals as goal

pub returns-in-QName : goal.returns-in-QName
returns-in-QName c = λ texts. subst (λ g. RuleGives (gives_text g) texts (with_value (λ b. item_of_atom b ∷ []) (of_text g c.args.text.now)) c.element_name.result) (sym c.in-QName.is) (c.element_name.ensures texts)

pub returns-in-PiTarget : goal.returns-in-PiTarget
returns-in-PiTarget c = λ texts. subst (λ g. RuleGives (gives_text g) texts (with_value (λ b. item_of_atom b ∷ []) (of_text g c.args.text.now)) c.target_name.result) (sym c.in-PiTarget.is) (c.target_name.ensures texts)
