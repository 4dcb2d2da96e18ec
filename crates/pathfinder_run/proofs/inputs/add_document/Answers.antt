use Rattle.std.proofs.Common.{◌+◌, [], map, get_or, string_bytes, sym, subst, arith}
use Rattle.std.proofs.lemmas.List.{length-map}
use Rattle.doc_shred.specs.Limits.{document_limit}
use Rattle.pathfinder_run.specs.Inputs.{IsKept, IsNew, IsWithin}
use Rattle.pathfinder_run.proofs.Loading.{shred_fails, loaded_new, few_documents, kept_loaded, named}
use Rattle.pathfinder_run.proofs.inputs.add_document.Goals as goal

pub returns-in-Err-shred_document-clause-fails : goal.returns-in-Err-shred_document-clause-fails
returns-in-Err-shred_document-clause-fails g c =
    let name = named c.args.names.now c.args.k c.index-names-k.result c.as_str-name.result.now c.as_str-name.ensures.value c.index-names-k.is c.requires.there in
    shred_fails (g.F.Shelf.files c.args.shelf.now) (get_or (map string_bytes c.args.names.now) c.args.k []) c.as_slice.result.now (c.args.k + 2) c.in-Err-shred_document.status
    (subst (λ z. IsWithin (g.F.Shelf.files c.args.shelf.now) document_limit z c.as_slice.result.now) name (subst (IsWithin (g.F.Shelf.files c.args.shelf.now) document_limit c.as_str-name.result.now) (sym c.as_slice.ensures.value) c.in-Ok.ensures.read))
    c.in-Err-shred_document.ensures.shreds

pub keep_document-requires-clause-new : goal.keep_document-requires-clause-new
keep_document-requires-clause-new g c =
    let name = named c.args.names.now c.args.k c.index-names-k.result c.as_str-name.result.now c.as_str-name.ensures.value c.index-names-k.is c.requires.there in
    subst (IsNew c.shred_document.new.pool c.args.store.now) (sym name)
    (loaded_new (g.F.Shelf.files c.args.shelf.now) (map string_bytes c.args.names.now) c.args.k c.args.pool.now c.shred_document.new.pool c.args.store.now c.requires.different
    (omega (arith, length-map c.args.names.now string_bytes, c.requires.there)) c.requires.loaded c.shred_document.ensures.later)

pub keep_document-requires-clause-few : goal.keep_document-requires-clause-few
keep_document-requires-clause-few g c =
    few_documents (g.F.Shelf.files c.args.shelf.now) (map string_bytes c.args.names.now) c.args.k c.args.pool.now c.args.store.now
    (omega (arith, length-map c.args.names.now string_bytes, c.requires.few)) (omega (arith, length-map c.args.names.now string_bytes, c.requires.there)) c.requires.loaded

pub returns-clause-loaded : goal.returns-clause-loaded
returns-clause-loaded g c =
    let name = named c.args.names.now c.args.k c.index-names-k.result c.as_str-name.result.now c.as_str-name.ensures.value c.index-names-k.is c.requires.there in
    kept_loaded (g.F.Shelf.files c.args.shelf.now) (map string_bytes c.args.names.now) c.args.k c.as_slice.result.now c.args.pool.now c.shred_document.new.pool c.keep_document.new.pool c.args.store.now c.keep_document.new.store c.in-Ok-shred_document.fragment c.keep_document.result
    (omega (arith, length-map c.args.names.now string_bytes, c.requires.there)) c.requires.loaded c.shred_document.ensures.later c.keep_document.ensures.later
    (subst (λ z. IsWithin (g.F.Shelf.files c.args.shelf.now) document_limit z c.as_slice.result.now) name (subst (IsWithin (g.F.Shelf.files c.args.shelf.now) document_limit c.as_str-name.result.now) (sym c.as_slice.ensures.value) c.in-Ok.ensures.read))
    c.in-Ok-shred_document.ensures.shreds
    (subst (λ z. IsKept c.in-Ok-shred_document.fragment z c.args.store.now c.keep_document.new.pool c.keep_document.new.store c.keep_document.result) name c.keep_document.ensures.kept)
