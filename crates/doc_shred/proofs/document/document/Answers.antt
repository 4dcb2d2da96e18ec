use Rattle.std.proofs.Common.{subst, sym, ap, arith, Err}
use Rattle.std.proofs.lemmas.Grind.{common_steps}
use Rattle.doc_shred.specs.Refusals.{DocumentRefused}
use Rattle.doc_shred.proofs.PrologSteps.{no_prolog, no_root, no_last, something_left, document_read, empty_list, filled_list}
use Rattle.doc_shred.proofs.document.document.Goals as goal

pub returns-in-Err-clause-refused : goal.returns-in-Err-clause-refused
returns-in-Err-clause-refused c = no_prolog c.args.text.now c.in-Err.error c.in-Err.ensures.refused

pub returns-in-Err-root-clause-refused : goal.returns-in-Err-root-clause-refused
returns-in-Err-root-clause-refused c =
    subst (DocumentRefused c.args.text.now) (sym c.refusal.ensures)
    (no_root c.args.text.now c.prolog.new.pool c.prolog.new.builder c.in-Ok.rest.now c.in-Ok.ensures.read c.root.new.pool c.in-Err-root.error c.root.ensures.later
    (λ e. c.in-Err-root.ensures.refused (ap (λ z. Err z) e)))

pub returns-in-Err-miscs-clause-refused : goal.returns-in-Err-miscs-clause-refused
returns-in-Err-miscs-clause-refused c =
    subst (DocumentRefused c.args.text.now) (sym c.refusal-in-Err-miscs.ensures)
    (no_last c.args.text.now c.prolog.new.pool c.prolog.new.builder c.in-Ok.rest.now c.in-Ok.ensures.read
    c.root.new.pool c.root.new.builder c.in-Ok-root.rest.now c.root.ensures.later c.in-Ok-root.ensures.read c.miscs.new.pool c.in-Err-miscs.error c.miscs.ensures.later
    (λ e. c.in-Err-miscs.ensures.refused (ap (λ z. Err z) e)))

pub returns-then-not-is_empty-clause-refused : goal.returns-then-not-is_empty-clause-refused
returns-then-not-is_empty-clause-refused c =
    something_left c.args.text.now c.prolog.new.pool c.prolog.new.builder c.in-Ok.rest.now c.in-Ok.ensures.read
    c.root.new.pool c.root.new.builder c.in-Ok-root.rest.now c.root.ensures.later c.in-Ok-root.ensures.read
    c.miscs.new.pool c.miscs.new.builder c.in-Ok-miscs.rest.now c.miscs.ensures.later c.in-Ok-miscs.ensures.read
    (filled_list c.in-Ok-miscs.rest.now (grind (arith, common_steps)))

pub returns-clause-read : goal.returns-clause-read
returns-clause-read c =
    document_read c.args.text.now c.prolog.new.pool c.prolog.new.builder c.in-Ok.rest.now c.in-Ok.ensures.read
    c.root.new.pool c.root.new.builder c.in-Ok-root.rest.now c.root.ensures.later c.in-Ok-root.ensures.read
    c.miscs.new.pool c.miscs.new.builder c.in-Ok-miscs.rest.now c.miscs.ensures.later c.in-Ok-miscs.ensures.read
    (empty_list c.in-Ok-miscs.rest.now (grind (arith, common_steps)))
