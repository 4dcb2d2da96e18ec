use Rattle.std.proofs.Common.{◌≡◌, sym, ap, ◌∙◌, arith}
use Rattle.doc_table.specs.Tree.{with_texts}
use Rattle.doc_shred.specs.declared.refusal.ShredFault.TheVariants.{NotWellFormed, Unsupported}
use Rattle.doc_shred.specs.Document.{lines_joined}
use Rattle.doc_shred.specs.Limits.{document_limit}
use Rattle.doc_shred.proofs.Whole.{text_fits, unsupported_cause, malformed_cause, supported, whole_tree, given_tree, level_kept, level_passed}
use Rattle.doc_shred.proofs.DocumentForms.{document_tree}
use Rattle.doc_shred.proofs.shredder.shred.Goals as goal

pub document-requires-clause-room : goal.document-requires-clause-room
document-requires-clause-room c =
    let text = c.as_slice.ensures.value ∙ c.in-Ok.ensures ∙ ap lines_joined c.without_mark.ensures in
    omega (arith, text_fits c.args.bytes.now c.as_slice.result.now document_limit text c.requires)

pub returns-in-Err-clause-unsupported : goal.returns-in-Err-clause-unsupported
returns-in-Err-clause-unsupported c = λ e.
    let text = c.as_slice.ensures.value ∙ c.in-Ok.ensures ∙ ap lines_joined c.without_mark.ensures in
    let same : c.in-Err.error ≡ Unsupported = cc in
    unsupported_cause c.args.bytes.now c.as_slice.result.now c.in-Err.error text c.in-Err.ensures.refused same

pub returns-in-Err-clause-not_well_formed : goal.returns-in-Err-clause-not_well_formed
returns-in-Err-clause-not_well_formed c = λ e.
    let text = c.as_slice.ensures.value ∙ c.in-Ok.ensures ∙ ap lines_joined c.without_mark.ensures in
    let same : c.in-Err.error ≡ NotWellFormed = cc in
    malformed_cause c.args.bytes.now c.as_slice.result.now c.in-Err.error text c.in-Err.ensures.refused same

pub returns-then-is_too_deep-clause-too_deep : goal.returns-then-is_too_deep-clause-too_deep
returns-then-is_too_deep-clause-too_deep c = λ e.
    let text = c.as_slice.ensures.value ∙ c.in-Ok.ensures ∙ ap lines_joined c.without_mark.ensures in (
      supported c.args.bytes.now c.as_slice.result.now c.document.new.pool c.document.new.builder c.close.new.self c.finish-fragment.result text c.in_default-document.ensures.read c.close.ensures c.finish-fragment.ensures,
      (
        with_texts c.document.new.pool c.finish-fragment.result,
        whole_tree c.args.bytes.now c.as_slice.result.now c.document.new.pool c.document.new.builder c.close.new.self c.finish-fragment.result text c.in_default-document.ensures.read c.close.ensures c.finish-fragment.ensures,
        level_passed c.document.new.pool c.finish-fragment.result (sym c.is_too_deep.ensures ∙ c.if-is_too_deep.true),
      ),
    )

pub returns-clause-tree : goal.returns-clause-tree
returns-clause-tree c =
    let text = c.as_slice.ensures.value ∙ c.in-Ok.ensures ∙ ap lines_joined c.without_mark.ensures in
    whole_tree c.args.bytes.now c.as_slice.result.now c.document.new.pool c.document.new.builder c.close.new.self c.finish-fragment.result text c.in_default-document.ensures.read c.close.ensures c.finish-fragment.ensures

pub returns-clause-given : goal.returns-clause-given
returns-clause-given c =
    let text = c.as_slice.ensures.value ∙ c.in-Ok.ensures ∙ ap lines_joined c.without_mark.ensures in
    given_tree c.args.bytes.now c.as_slice.result.now c.document.new.pool c.document.new.builder c.close.new.self c.finish-fragment.result text c.in_default-document.ensures.read c.close.ensures c.finish-fragment.ensures

pub returns-clause-level : goal.returns-clause-level
returns-clause-level c = level_kept c.document.new.pool c.finish-fragment.result (sym c.is_too_deep.ensures ∙ c.if-is_too_deep.false)

pub returns-clause-supported : goal.returns-clause-supported
returns-clause-supported c =
    let text = c.as_slice.ensures.value ∙ c.in-Ok.ensures ∙ ap lines_joined c.without_mark.ensures in
    supported c.args.bytes.now c.as_slice.result.now c.document.new.pool c.document.new.builder c.close.new.self c.finish-fragment.result text c.in_default-document.ensures.read c.close.ensures c.finish-fragment.ensures

pub returns-clause-document : goal.returns-clause-document
returns-clause-document c =
    let text = c.as_slice.ensures.value ∙ c.in-Ok.ensures ∙ ap lines_joined c.without_mark.ensures in
    document_tree c.args.bytes.now c.document.new.pool c.finish-fragment.result (whole_tree c.args.bytes.now c.as_slice.result.now c.document.new.pool c.document.new.builder c.close.new.self c.finish-fragment.result text c.in_default-document.ensures.read c.close.ensures c.finish-fragment.ensures) c.validity.ensures.sound
