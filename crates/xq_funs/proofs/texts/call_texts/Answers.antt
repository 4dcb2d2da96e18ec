use Rattle.std.proofs.Common.{◌≡◌, true, length, sym, ap, ◌∙◌, subst}
use Rattle.std.proofs.lemmas.Bool.{ltb-true}
use Rattle.doc_table.specs.Tree.{text_in}
use Rattle.doc_table.specs.Given.{is_given}
use Rattle.xq_funs.specs.Answering.{answer_of}
use Rattle.xq_funs.specs.Calls.{RuleGives, gives_text}
use Rattle.xq_funs.specs.TextCalls.{of_texts}
use Rattle.xq_funs.proofs.Ordered.{text_is}
use Rattle.xq_funs.proofs.TextLaws.{first_given, second_given, pair_is, pair_rule, two_texts_call}
use Rattle.xq_funs.proofs.texts.call_texts.Goals as goal

pub text-requires : goal.text-requires
text-requires c = ltb-true c.in-Ok.t.0 (length c.args.pool.now) (first_given (λ id. is_given (length c.args.pool.now) id ≡ true) c.string_id.result c.string_id-2.result c.in-Ok.t c.in-Ok.u c.in-Ok.ensures (c.string_id.ensures.given (length c.args.pool.now) c.requires.given_a))

pub text-requires-in-Ok : goal.text-requires-in-Ok
text-requires-in-Ok c = ltb-true c.in-Ok.u.0 (length c.args.pool.now) (second_given (λ id. is_given (length c.args.pool.now) id ≡ true) c.string_id.result c.string_id-2.result c.in-Ok.t c.in-Ok.u c.in-Ok.ensures (c.string_id-2.ensures.given (length c.args.pool.now) c.requires.given_b))

pub returns-in-Ok : goal.returns-in-Ok
returns-in-Ok c =
    let first = text_is c.args.pool.now c.in-Ok.t c.text.result.now c.text.ensures.given in
    let second = text_is c.args.pool.now c.in-Ok.u c.text-in-Ok.result.now c.text-in-Ok.ensures.given in
    let both = pair_is (λ id. text_in c.args.pool.now id) (λ id. text_in c.args.pool.now id) (answer_of c.string_id.result) (answer_of c.string_id-2.result) _ _ _ c.in-Ok.ensures (c.string_id.ensures.value c.args.pool.now) (c.string_id-2.ensures.value c.args.pool.now) in
    λ docs. subst (λ z. RuleGives (gives_text c.args.fun) c.args.pool.now z c.texts_value.result)
    (sym (two_texts_call docs c.args.fun c.args.pool.now c.args.a c.args.b c.requires.fun ∙ ap (pair_rule (of_texts c.args.fun)) both
    ∙ ap (λ z. pair_rule (of_texts c.args.fun) (Rattle.xq_base.specs.Answers.Value (z, text_in c.args.pool.now c.in-Ok.u))) first
    ∙ ap (λ z. pair_rule (of_texts c.args.fun) (Rattle.xq_base.specs.Answers.Value (c.text.result.now, z))) second))
    (c.texts_value.ensures c.args.pool.now)

pub returns-in-Err : goal.returns-in-Err
returns-in-Err c =
    let both = pair_is (λ id. text_in c.args.pool.now id) (λ id. text_in c.args.pool.now id) (answer_of c.string_id.result) (answer_of c.string_id-2.result) _ _ _ c.in-Err.ensures (c.string_id.ensures.value c.args.pool.now) (c.string_id-2.ensures.value c.args.pool.now) in
    λ docs. two_texts_call docs c.args.fun c.args.pool.now c.args.a c.args.b c.requires.fun ∙ ap (pair_rule (of_texts c.args.fun)) both
