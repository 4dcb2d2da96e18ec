use Rattle.std.proofs.Common.{◌≡◌, sym, ap, ◌∙◌, arith, true, false, drop}
use Rattle.doc_shred.specs.Rules.{begins}
use Rattle.doc_shred.proofs.Runs.{holds_here, holds_nowhere, whole_rest}
use Rattle.doc_shred.proofs.markup.has_word.Goals as goal

pub returns-then-comes_word : goal.returns-then-comes_word
returns-then-comes_word c =
    let found : begins c.args.word.now (drop c.loop-at.at c.args.bytes.now) ≡ true = ap (begins c.args.word.now) (sym (whole_rest c.args.bytes.now c.loop-at.at)) ∙ sym c.comes_word.ensures ∙ c.if-comes_word.true in
    sym (holds_here c.args.word.now c.args.bytes.now c.loop-at.at true (omega arith) found) ∙ c.loop-at.invariant

pub loop-at-preserved : goal.loop-at-preserved
loop-at-preserved c =
    let missed : begins c.args.word.now (drop c.loop-at.at c.args.bytes.now) ≡ false = ap (begins c.args.word.now) (sym (whole_rest c.args.bytes.now c.loop-at.at)) ∙ sym c.comes_word.ensures ∙ c.if-comes_word.false in
    sym (holds_here c.args.word.now c.args.bytes.now c.loop-at.at false (omega arith) missed) ∙ c.loop-at.invariant

pub returns : goal.returns
returns c = sym (holds_nowhere c.args.word.now c.args.bytes.now c.loop-at.at c.requires (omega arith)) ∙ c.loop-at.invariant
