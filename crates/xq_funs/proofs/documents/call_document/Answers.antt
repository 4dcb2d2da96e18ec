use Rattle.std.proofs.Common.{refl, not, length, sym, ap, ◌∙◌, subst}
use Rattle.doc_table.specs.Tree.{text_in}
use Rattle.doc_table.specs.Items.{item_of}
use Rattle.doc_table.specs.NodeRules.{doc_named}
use Rattle.doc_table.specs.Documents.{documents_in}
use Rattle.doc_table.specs.StoredItems.{trees_of}
use Rattle.xq_funs.specs.Answering.{atom_in, is_plain}
use Rattle.xq_funs.specs.Calls.{Gives}
use Rattle.xq_funs.proofs.DocumentLaws.{names_given_later, documents_later, document_called}
use Rattle.xq_funs.proofs.documents.call_document.Goals as goal

pub find_document-requires-clause-name : goal.find_document-requires-clause-name
find_document-requires-clause-name c = c.in-Ok-string_id.ensures.given (length c.atomize.new.pool) c.in-Ok.ensures.given c.in-Ok-string_id.name refl

pub find_document-requires-clause-names : goal.find_document-requires-clause-names
find_document-requires-clause-names c = names_given_later c.args.pool.now c.atomize.new.pool c.atomize.ensures.keeps c.args.store.now.docs c.requires.names

pub returns-in-Ok-string_id-clause-value : goal.returns-in-Ok-string_id-clause-value
returns-in-Ok-string_id-clause-value c =
    let old = c.args.pool.now in
    let new = c.atomize.new.pool in
    let h = c.args.store.now in
    subst (λ z. Gives (not (is_plain c.args.item)) new h z c.find_document.result)
    (ap (λ d. doc_named d 0 (text_in new c.in-Ok-string_id.name)) (documents_later old new c.atomize.ensures.keeps h c.requires.names c.requires.trees)
    ∙ sym (document_called (documents_in old h) (item_of old (trees_of h) c.args.item) (atom_in new c.in-Ok.atom) _ c.in-Ok.ensures.value (c.in-Ok-string_id.ensures.value new)))
    (c.find_document.ensures (not (is_plain c.args.item)))

pub returns-in-Err-clause-value : goal.returns-in-Err-clause-value
returns-in-Err-clause-value c =
    let old = c.args.pool.now in
    let h = c.args.store.now in
    document_called (documents_in old h) (item_of old (trees_of h) c.args.item) (atom_in c.atomize.new.pool c.in-Ok.atom) _ c.in-Ok.ensures.value (c.in-Err.ensures.value c.atomize.new.pool)
