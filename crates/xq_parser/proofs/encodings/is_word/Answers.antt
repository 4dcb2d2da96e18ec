use Rattle.std.proofs.Common.{◌≡◌, ◌+◌, ◌-◌, ◌∙◌, refl, sym, arith, rules, Some, None}
use Rattle.xq_ast.specs.Bytes.{byte}
use Rattle.xq_parser.specs.Strings.{value_step}
use Rattle.xq_parser.specs.Encodings.{behind_step}
use Rattle.xq_parser.proofs.EncodingLaws.{word_goes, word_differs, word_ends, word_over}
use Rattle.xq_parser.proofs.encodings.is_word.Goals as goal

pub returns-then-from-to : goal.returns-then-from-to
returns-then-from-to c =
    c.is_empty.ensures
    ∙ sym (word_over (byte c.args.text.now c.args.from) c.args.text.now c.args.to c.args.from (c.args.from + 1) (c.args.to - 1) c.args.word.now _ c.if-from-to.true refl)

pub returns-then-at-last : goal.returns-then-at-last
returns-then-at-last c = c.is_empty-then-at-last.ensures ∙ sym (word_ends _ _ _ _ _ _ _ c.if-at-last.true c.loop-turn.invariant)

pub returns-in-None : goal.returns-in-None
returns-in-None c =
    let e : behind_step c.loop-turn.rest.now (c.args.to - 1) (value_step c.byte-quote.result c.args.text.now c.loop-turn.at) ≡ None = search rules in
    sym (word_differs _ _ _ _ _ _ _ _ (omega arith) c.if-at-last.false e c.loop-turn.invariant)

pub loop-turn-preserved : goal.loop-turn-preserved
loop-turn-preserved c =
    let e : behind_step c.loop-turn.rest.now (c.args.to - 1) (value_step c.byte-quote.result c.args.text.now c.loop-turn.at) ≡ Some (c.in-Some.more.now, c.in-Some.next) = search rules in
    word_goes _ _ _ _ _ _ _ _ _ _ (omega arith) c.if-at-last.false e c.loop-turn.invariant

pub returns : goal.returns
returns c = c.is_empty-2.ensures ∙ sym (word_over _ _ _ _ _ _ _ _ (omega arith) c.loop-turn.invariant)
