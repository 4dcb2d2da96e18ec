use Rattle.std.proofs.Common.{◌≡◌, ◌+◌, ◌-◌, ◌∙◌, refl, arith, rules, [], Some, None}
use Rattle.xq_ast.specs.Values.{string_value}
use Rattle.xq_parser.specs.Strings.{value_step, added}
use Rattle.xq_parser.proofs.LineLaws.{value_goes, value_ends, value_whole, value_no_turn}
use Rattle.xq_parser.proofs.strings.string_value.Goals as goal

pub returns-then-from-to : goal.returns-then-from-to
returns-then-from-to c =
    c.from_vec.ensures ∙ c.new-found.ensures.items
    ∙ value_no_turn _ c.args.text.now c.args.to c.args.from (c.args.from + 1) (c.args.to - 1) [] (string_value c.args.text.now c.args.from c.args.to) c.if-from-to.true refl

pub returns-then-at-last : goal.returns-then-at-last
returns-then-at-last c = c.from_vec-then-at-last.ensures ∙ value_whole _ _ _ _ _ _ _ c.if-at-last.true c.loop-turn.invariant

pub returns-in-None : goal.returns-in-None
returns-in-None c =
    let e : (c.push_step.new.found.items, None) ≡ added c.loop-turn.found.items (value_step c.byte-quote.result c.args.text.now c.loop-turn.at) = search rules in
    c.from_vec-in-None.ensures ∙ value_ends _ _ _ _ _ _ _ _ _ (omega arith) c.if-at-last.false e c.loop-turn.invariant

pub loop-turn-preserved : goal.loop-turn-preserved
loop-turn-preserved c =
    let e : (c.push_step.new.found.items, Some c.in-Some.next) ≡ added c.loop-turn.found.items (value_step c.byte-quote.result c.args.text.now c.loop-turn.at) = search rules in
    value_goes _ _ _ _ _ _ _ _ _ _ (omega arith) c.if-at-last.false e c.loop-turn.invariant

pub returns : goal.returns
returns c = c.from_vec-2.ensures ∙ value_no_turn _ _ _ _ _ _ _ _ (omega arith) c.loop-turn.invariant
