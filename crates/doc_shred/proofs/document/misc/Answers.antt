use Rattle.std.proofs.Common.{sym, ◌∙◌}
use Rattle.doc_shred.specs.Views.{Lent}
use Rattle.doc_shred.specs.Standing.{CommentAdded, InstructionAdded, MiscAdded}
use Rattle.doc_shred.proofs.Passes.{if_ok}
use Rattle.doc_shred.proofs.MiscLaws.{space_added, comment_misc, instruction_misc, no_comment, no_instruction}
use Rattle.doc_shred.proofs.document.misc.Goals as goal

pub returns-then-comes-clause-added : goal.returns-then-comes-clause-added
returns-then-comes-clause-added c =
    space_added c.args.pool.now c.args.builder.now c.args.bytes.now c.split_run.result.1.now c.requires.state (sym c.comes.ensures ∙ c.if-comes.true) c.split_run.ensures.back

pub returns-then-comes_word-clause-added : goal.returns-then-comes_word-clause-added
returns-then-comes_word-clause-added c = if_ok
    (λ (rest : Lent). CommentAdded c.add_comment.new.pool c.args.builder.now c.add_comment.new.builder c.args.bytes.now rest.now)
    (λ (rest : Lent). MiscAdded c.add_comment.new.pool c.args.builder.now c.add_comment.new.builder c.args.bytes.now rest.now)
    c.add_comment.result c.add_comment.ensures.added
    (λ rest a. comment_misc c.add_comment.new.pool c.args.builder.now c.add_comment.new.builder c.args.bytes.now rest.now c.requires.state (sym c.comes.ensures ∙ c.if-comes.false) (sym c.comes_word.ensures ∙ c.if-comes_word.true) a)

pub returns-then-comes_word-clause-refused : goal.returns-then-comes_word-clause-refused
returns-then-comes_word-clause-refused c = λ e.
    no_comment c.args.bytes.now (sym c.comes.ensures ∙ c.if-comes.false) (sym c.comes_word.ensures ∙ c.if-comes_word.true) (c.add_comment.ensures.refused e)

pub returns-clause-added : goal.returns-clause-added
returns-clause-added c = if_ok
    (λ (rest : Lent). InstructionAdded c.add_instruction.new.pool c.args.builder.now c.add_instruction.new.builder c.args.bytes.now rest.now)
    (λ (rest : Lent). MiscAdded c.add_instruction.new.pool c.args.builder.now c.add_instruction.new.builder c.args.bytes.now rest.now)
    c.add_instruction.result c.add_instruction.ensures.added
    (λ rest a. instruction_misc c.add_instruction.new.pool c.args.builder.now c.add_instruction.new.builder c.args.bytes.now rest.now c.requires.state (sym c.comes.ensures ∙ c.if-comes.false) (sym c.comes_word.ensures ∙ c.if-comes_word.false) a)

pub returns-clause-refused : goal.returns-clause-refused
returns-clause-refused c = λ e.
    no_instruction c.args.bytes.now (sym c.comes.ensures ∙ c.if-comes.false) (sym c.comes_word.ensures ∙ c.if-comes_word.false) (c.add_instruction.ensures.refused e)
