use Rattle.std.proofs.Common.{◌≡◌, true, length, sym, ap, ◌∙◌, subst}
use Rattle.std.proofs.lemmas.Bool.{ltb-true}
use Rattle.xq_base.specs.declared.item.TextId.{TextId}
use Rattle.xq_base.specs.Answers.{Value}
use Rattle.doc_table.specs.Tree.{text_in}
use Rattle.doc_table.specs.Given.{is_given}
use Rattle.xq_funs.specs.Answering.{answer_of}
use Rattle.xq_funs.specs.Calls.{RuleGives}
use Rattle.xq_funs.proofs.Ordered.{text_is}
use Rattle.xq_funs.proofs.TextLaws.{first_of_three, second_of_three, second_given, pair_is, pair_rule, other_chars_for, translate_call}
use Rattle.xq_funs.proofs.texts.call_translate.Goals as goal

pub text-requires : goal.text-requires
text-requires c = ltb-true c.in-Ok.text.0 (length c.args.pool.now)
    (first_of_three (λ id. is_given (length c.args.pool.now) id ≡ true) c.string_id.result c.string_id-2.result c.both.result c.string_id-3.result c.in-Ok.text c.in-Ok.from c.in-Ok.to c.both.ensures c.in-Ok.ensures (c.string_id.ensures.given (length c.args.pool.now) c.requires.given_a))

pub text-requires-in-Ok : goal.text-requires-in-Ok
text-requires-in-Ok c = ltb-true c.in-Ok.from.0 (length c.args.pool.now)
    (second_of_three (λ id. is_given (length c.args.pool.now) id ≡ true) c.string_id.result c.string_id-2.result c.both.result c.string_id-3.result c.in-Ok.text c.in-Ok.from c.in-Ok.to c.both.ensures c.in-Ok.ensures (c.string_id-2.ensures.given (length c.args.pool.now) c.requires.given_b))

pub text-requires-in-Ok-2 : goal.text-requires-in-Ok-2
text-requires-in-Ok-2 c = ltb-true c.in-Ok.to.0 (length c.args.pool.now)
    (second_given (λ id. is_given (length c.args.pool.now) id ≡ true) c.both.result c.string_id-3.result (c.in-Ok.text, c.in-Ok.from) c.in-Ok.to c.in-Ok.ensures (c.string_id-3.ensures.given (length c.args.pool.now) c.requires.given_c))

pub returns-in-Ok : goal.returns-in-Ok
returns-in-Ok c =
    let first = text_is c.args.pool.now c.in-Ok.text c.text.result.now c.text.ensures.given in
    let second = text_is c.args.pool.now c.in-Ok.from c.text-in-Ok.result.now c.text-in-Ok.ensures.given in
    let third = text_is c.args.pool.now c.in-Ok.to c.text-in-Ok-2.result.now c.text-in-Ok-2.ensures.given in
    let front = pair_is (λ id. text_in c.args.pool.now id) (λ id. text_in c.args.pool.now id) (answer_of c.string_id.result) (answer_of c.string_id-2.result) (answer_of c.both.result) _ _ c.both.ensures (c.string_id.ensures.value c.args.pool.now) (c.string_id-2.ensures.value c.args.pool.now) in
    let all = pair_is (λ (p : TextId × TextId). (text_in c.args.pool.now p.0, text_in c.args.pool.now p.1)) (λ id. text_in c.args.pool.now id) (answer_of c.both.result) (answer_of c.string_id-3.result) _ _ _ c.in-Ok.ensures (sym front) (c.string_id-3.ensures.value c.args.pool.now) in
    λ docs. subst (λ z. RuleGives true c.args.pool.now z c.translated_value.result)
    (sym (translate_call docs c.args.pool.now c.args.a c.args.b c.args.c ∙ ap (pair_rule other_chars_for) all
    ∙ ap (λ z. pair_rule other_chars_for (Value ((z, text_in c.args.pool.now c.in-Ok.from), text_in c.args.pool.now c.in-Ok.to))) first
    ∙ ap (λ z. pair_rule other_chars_for (Value ((c.text.result.now, z), text_in c.args.pool.now c.in-Ok.to))) second
    ∙ ap (λ z. pair_rule other_chars_for (Value ((c.text.result.now, c.text-in-Ok.result.now), z))) third))
    (c.translated_value.ensures c.args.pool.now)

pub returns-in-Err : goal.returns-in-Err
returns-in-Err c =
    let front = pair_is (λ id. text_in c.args.pool.now id) (λ id. text_in c.args.pool.now id) (answer_of c.string_id.result) (answer_of c.string_id-2.result) (answer_of c.both.result) _ _ c.both.ensures (c.string_id.ensures.value c.args.pool.now) (c.string_id-2.ensures.value c.args.pool.now) in
    let all = pair_is (λ (p : TextId × TextId). (text_in c.args.pool.now p.0, text_in c.args.pool.now p.1)) (λ id. text_in c.args.pool.now id) (answer_of c.both.result) (answer_of c.string_id-3.result) _ _ _ c.in-Err.ensures (sym front) (c.string_id-3.ensures.value c.args.pool.now) in
    λ docs. translate_call docs c.args.pool.now c.args.a c.args.b c.args.c ∙ ap (pair_rule other_chars_for) all
