use Rattle.std.proofs.Common.{length, refl, sym, ◌∙◌, subst}
use Rattle.std.proofs.lemmas.Bool.{ltb-true}
use Rattle.xq_funs.specs.Answering.{atom_in}
use Rattle.xq_funs.specs.Calls.{RuleGives, gives_text}
use Rattle.xq_funs.proofs.Ordered.{text_is}
use Rattle.xq_funs.proofs.TextLaws.{one_text_call, text_done, text_fails}
use Rattle.xq_funs.proofs.texts.call_text.Goals as goal

pub text-requires : goal.text-requires
text-requires c = ltb-true c.in-Ok.text.0 (length c.args.pool.now) (c.in-Ok.ensures.given (length c.args.pool.now) c.requires.given c.in-Ok.text refl)

pub returns-in-Ok : goal.returns-in-Ok
returns-in-Ok c = λ docs.
    subst (λ z. RuleGives (gives_text c.args.fun) c.args.pool.now z c.text_value.result)
    (text_done c.args.fun (atom_in c.args.pool.now c.args.a) _ c.text.result.now (c.in-Ok.ensures.value c.args.pool.now) (text_is c.args.pool.now c.in-Ok.text c.text.result.now c.text.ensures.given) ∙ sym (one_text_call docs c.args.fun c.args.pool.now c.args.a c.requires.fun))
    (c.text_value.ensures c.args.pool.now)

pub returns-in-Err : goal.returns-in-Err
returns-in-Err c = λ docs. one_text_call docs c.args.fun c.args.pool.now c.args.a c.requires.fun ∙ text_fails c.args.fun (atom_in c.args.pool.now c.args.a) c.in-Err.code (c.in-Err.ensures.value c.args.pool.now)
