use Rattle.std.proofs.Common.{◌≡◌, sym, ◌∙◌, rules, true, false, codes}
use Rattle.doc_shred.specs.Rules.{begins}
use Rattle.doc_shred.specs.Views.{Lent}
use Rattle.doc_shred.specs.Walk.{marked}
use Rattle.doc_shred.specs.Standing.{CommentAdded, InstructionAdded, ElementClosed, Walked, Starts, Passed}
use Rattle.doc_shred.proofs.Passes.{if_ok, comment_passed, instruction_passed, end_passed, start_passed, comment_refused, instruction_refused, start_refused, end_refused}
use Rattle.doc_shred.proofs.pieces.piece.Goals as goal

pub returns-then-comes_word-clause-passed : goal.returns-then-comes_word-clause-passed
returns-then-comes_word-clause-passed c = if_ok
    (λ (rest : Lent). ElementClosed c.args.names.now c.close_element.new.names c.args.builder.now c.close_element.new.builder c.args.bytes.now rest.now)
    (λ (rest : Lent). Passed marked c.args.pool.now c.args.names.now c.close_element.new.names c.args.builder.now c.close_element.new.builder c.args.bytes.now rest.now)
    c.close_element.result c.close_element.ensures.closed
    (λ rest a. end_passed c.args.pool.now c.args.names.now c.close_element.new.names c.args.builder.now c.close_element.new.builder c.args.bytes.now rest.now c.requires.state a)

pub returns-then-comes_word-clause-refused : goal.returns-then-comes_word-clause-refused
returns-then-comes_word-clause-refused c = λ e.
    let one : begins (codes "</") c.args.bytes.now ≡ true = search rules in
    end_refused c.args.pool.now c.args.names.now c.args.builder.now c.args.bytes.now one (c.close_element.ensures.refused e)

pub returns-then-comes_word-2-clause-passed : goal.returns-then-comes_word-2-clause-passed
returns-then-comes_word-2-clause-passed c = if_ok
    (λ (rest : Lent). CommentAdded c.add_comment.new.pool c.args.builder.now c.add_comment.new.builder c.args.bytes.now rest.now)
    (λ (rest : Lent). Passed marked c.add_comment.new.pool c.args.names.now c.args.names.now c.args.builder.now c.add_comment.new.builder c.args.bytes.now rest.now)
    c.add_comment.result c.add_comment.ensures.added
    (λ rest a. comment_passed c.add_comment.new.pool c.args.names.now c.args.builder.now c.add_comment.new.builder c.args.bytes.now rest.now c.requires.state a)

pub returns-then-comes_word-2-clause-refused : goal.returns-then-comes_word-2-clause-refused
returns-then-comes_word-2-clause-refused c = λ e.
    let one : begins (codes "</") c.args.bytes.now ≡ false = sym c.comes_word.ensures ∙ c.if-comes_word.false in
    let two : begins (codes "<!--") c.args.bytes.now ≡ true = sym c.comes_word-2.ensures ∙ c.if-comes_word-2.true in
    comment_refused c.add_comment.new.pool c.args.names.now c.args.builder.now c.args.bytes.now one two (c.add_comment.ensures.refused e)

pub returns-then-comes_word-3-clause-passed : goal.returns-then-comes_word-3-clause-passed
returns-then-comes_word-3-clause-passed c = if_ok
    (λ (rest : Lent). InstructionAdded c.add_instruction.new.pool c.args.builder.now c.add_instruction.new.builder c.args.bytes.now rest.now)
    (λ (rest : Lent). Passed marked c.add_instruction.new.pool c.args.names.now c.args.names.now c.args.builder.now c.add_instruction.new.builder c.args.bytes.now rest.now)
    c.add_instruction.result c.add_instruction.ensures.added
    (λ rest a. instruction_passed c.add_instruction.new.pool c.args.names.now c.args.builder.now c.add_instruction.new.builder c.args.bytes.now rest.now c.requires.state a)

pub returns-then-comes_word-3-clause-refused : goal.returns-then-comes_word-3-clause-refused
returns-then-comes_word-3-clause-refused c = λ e.
    let one : begins (codes "</") c.args.bytes.now ≡ false = sym c.comes_word.ensures ∙ c.if-comes_word.false in
    let two : begins (codes "<!--") c.args.bytes.now ≡ false = sym c.comes_word-2.ensures ∙ c.if-comes_word-2.false in
    let three : begins (codes "<?") c.args.bytes.now ≡ true = sym c.comes_word-3.ensures ∙ c.if-comes_word-3.true in
    instruction_refused c.add_instruction.new.pool c.args.names.now c.args.builder.now c.args.bytes.now one two three (c.add_instruction.ensures.refused e)

pub returns-clause-passed : goal.returns-clause-passed
returns-clause-passed c = if_ok
    (λ (rest : Lent). Walked (Starts c.args.bytes.now rest.now c.args.names.now c.start_tag.new.names c.args.builder.now c.start_tag.new.builder) c.start_tag.new.pool c.args.names.now c.start_tag.new.names c.args.builder.now c.start_tag.new.builder)
    (λ (rest : Lent). Passed marked c.start_tag.new.pool c.args.names.now c.start_tag.new.names c.args.builder.now c.start_tag.new.builder c.args.bytes.now rest.now)
    c.start_tag.result c.start_tag.ensures.started
    (λ rest a. start_passed c.start_tag.new.pool c.args.names.now c.start_tag.new.names c.args.builder.now c.start_tag.new.builder c.args.bytes.now rest.now c.requires.state a)

pub returns-clause-refused : goal.returns-clause-refused
returns-clause-refused c = λ e.
    let one : begins (codes "</") c.args.bytes.now ≡ false = sym c.comes_word.ensures ∙ c.if-comes_word.false in
    let two : begins (codes "<!--") c.args.bytes.now ≡ false = sym c.comes_word-2.ensures ∙ c.if-comes_word-2.false in
    let three : begins (codes "<?") c.args.bytes.now ≡ false = sym c.comes_word-3.ensures ∙ c.if-comes_word-3.false in
    start_refused c.start_tag.new.pool c.args.names.now c.args.builder.now c.args.bytes.now one two three (c.start_tag.ensures.refused e)
