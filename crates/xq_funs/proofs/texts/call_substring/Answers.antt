use Rattle.std.proofs.Common.{◌≡◌, true, length, ℤ, sym, ap, ◌∙◌, subst, arith}
use Rattle.std.proofs.lemmas.Bool.{ltb-true}
use Rattle.std.proofs.lemmas.Int.{to_z-of_z, ints}
use mir.Syntax.{w64}
use mir.Val.{to_z, of_z}
use Rattle.xq_base.specs.declared.item.TextId.{TextId}
use Rattle.xq_base.specs.Answers.{Value, both_of}
use Rattle.doc_table.specs.Tree.{text_in}
use Rattle.doc_table.specs.Given.{is_given}
use Rattle.xq_funs.specs.Answering.{answer_of}
use Rattle.xq_funs.specs.Calls.{RuleGives}
use Rattle.xq_funs.proofs.Ordered.{text_is}
use Rattle.xq_funs.proofs.TextLaws.{first_of_three, pair_is, pair_rule, with_itself, between_places, substring_call}
use Rattle.xq_funs.proofs.texts.call_substring.Goals as goal

pub text-requires : goal.text-requires
text-requires c = ltb-true c.in-Ok.text.0 (length c.args.pool.now)
    (first_of_three (λ id. is_given (length c.args.pool.now) id ≡ true) c.string_id.result c.number.result c.both.result c.number-2.result c.in-Ok.text _ _ c.both.ensures c.in-Ok.ensures (c.string_id.ensures.given (length c.args.pool.now) c.requires.given_a))

pub returns-in-Ok : goal.returns-in-Ok
returns-in-Ok c =
    let first = text_is c.args.pool.now c.in-Ok.text c.text.result.now c.text.ensures.given in
    let e = c.in-Ok.ensures in
    let here : Value ((c.in-Ok.text, c.in-Ok.start), c.in-Ok.length) ≡ both_of (answer_of c.both.result) (answer_of c.number-2.result) = grind (arith, to_z-of_z, e) in
    let front = pair_is (λ id. text_in c.args.pool.now id) (λ z. z) (answer_of c.string_id.result) (answer_of c.number.result) (answer_of c.both.result) _ _ c.both.ensures (c.string_id.ensures.value c.args.pool.now) (with_itself (answer_of c.number.result) ∙ c.number.ensures) in
    let all = pair_is (λ (p : TextId × ℤ). (text_in c.args.pool.now p.0, p.1)) (λ z. z) (answer_of c.both.result) (answer_of c.number-2.result) _ _ _ here (sym front) (with_itself (answer_of c.number-2.result) ∙ c.number-2.ensures) in
    let same : to_z w64 (of_z w64 c.in-Ok.start) ≡ c.in-Ok.start = omega (arith, ints) in
    let again : to_z w64 (of_z w64 c.in-Ok.length) ≡ c.in-Ok.length = omega (arith, ints) in
    λ docs. subst (λ z. RuleGives true c.args.pool.now z c.between_value.result)
    (sym (substring_call docs c.args.pool.now c.args.a c.args.b c.args.c ∙ ap (pair_rule between_places) all ∙ ap (λ z. pair_rule between_places (Value ((z, c.in-Ok.start), c.in-Ok.length))) first))
    (subst (λ n. RuleGives true c.args.pool.now (pair_rule between_places (Value ((c.text.result.now, c.in-Ok.start), n))) c.between_value.result) again
    (subst (λ n. RuleGives true c.args.pool.now (pair_rule between_places (Value ((c.text.result.now, n), to_z w64 (of_z w64 c.in-Ok.length)))) c.between_value.result) same (c.between_value.ensures c.args.pool.now)))

pub returns-in-Err : goal.returns-in-Err
returns-in-Err c =
    let front = pair_is (λ id. text_in c.args.pool.now id) (λ z. z) (answer_of c.string_id.result) (answer_of c.number.result) (answer_of c.both.result) _ _ c.both.ensures (c.string_id.ensures.value c.args.pool.now) (with_itself (answer_of c.number.result) ∙ c.number.ensures) in
    let all = pair_is (λ (p : TextId × ℤ). (text_in c.args.pool.now p.0, p.1)) (λ z. z) (answer_of c.both.result) (answer_of c.number-2.result) _ _ _ c.in-Err.ensures (sym front) (with_itself (answer_of c.number-2.result) ∙ c.number-2.ensures) in
    λ docs. substring_call docs c.args.pool.now c.args.a c.args.b c.args.c ∙ ap (pair_rule between_places) all
