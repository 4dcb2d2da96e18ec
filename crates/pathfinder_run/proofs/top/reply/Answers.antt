use Rattle.std.proofs.Common.{map, string_bytes, sym, subst}
use Rattle.doc_table.specs.Documents.{documents_in}
use Rattle.pathfinder_run.specs.Inputs.{IsWithin, Loaded, StopsAt, query_limit}
use Rattle.pathfinder_run.proofs.Replying.{asks_one, asks_then, value_rises, replied, stopped}
use Rattle.pathfinder_run.proofs.top.reply.Goals as goal

pub returns-in-Err-compile_text-clause-asked : goal.returns-in-Err-compile_text-clause-asked
returns-in-Err-compile_text-clause-asked g c = asks_one (g.F.Shelf.asked c.args.shelf.now) (g.F.Shelf.asked c.read_file.new.shelf) c.args.query.now (map string_bytes c.args.names.now) c.in-Ok.ensures.appended

pub returns-in-Ok-load_documents-clause-cause : goal.returns-in-Ok-load_documents-clause-cause
returns-in-Ok-load_documents-clause-cause g c =
    value_rises (documents_in c.load_documents.new.pool c.load_documents.new.store) c.as_slice.result.now (g.F.Shelf.faults c.args.shelf.now) (g.F.Shelf.faults c.load_documents.new.shelf) c.answer_over.result
    (c.answer_over.ensures c.as_slice.result.now (c.in-Ok-compile_text.ensures.compiled c.load_documents.new.pool c.load_documents.ensures.grown).0)

pub returns-in-Ok-load_documents-clause-asked : goal.returns-in-Ok-load_documents-clause-asked
returns-in-Ok-load_documents-clause-asked g c = asks_then (g.F.Shelf.asked c.args.shelf.now) (g.F.Shelf.asked c.read_file.new.shelf) (g.F.Shelf.asked c.load_documents.new.shelf) c.args.query.now (map string_bytes c.args.names.now) c.in-Ok.ensures.appended c.load_documents.ensures.asked

pub returns-in-Ok-load_documents-clause-replies : goal.returns-in-Ok-load_documents-clause-replies
returns-in-Ok-load_documents-clause-replies g c =
    replied (g.F.Shelf.files c.args.shelf.now) c.args.query.now (map string_bytes c.args.names.now) c.as_slice.result.now c.load_documents.new.pool c.load_documents.new.store c.answer_over.result
    (subst (IsWithin (g.F.Shelf.files c.args.shelf.now) query_limit c.args.query.now) (sym c.as_slice.ensures.value) c.in-Ok.ensures.read)
    (subst (λ z. Loaded z (map string_bytes c.args.names.now) c.load_documents.new.pool c.load_documents.new.store) c.in-Ok.ensures.files c.in-Ok-load_documents.ensures.loads)
    (c.answer_over.ensures c.as_slice.result.now (c.in-Ok-compile_text.ensures.compiled c.load_documents.new.pool c.load_documents.ensures.grown).0)

pub returns-clause-asked : goal.returns-clause-asked
returns-clause-asked g c = asks_then (g.F.Shelf.asked c.args.shelf.now) (g.F.Shelf.asked c.read_file.new.shelf) (g.F.Shelf.asked c.load_documents.new.shelf) c.args.query.now (map string_bytes c.args.names.now) c.in-Ok.ensures.appended c.load_documents.ensures.asked

pub returns-clause-replies : goal.returns-clause-replies
returns-clause-replies g c =
    stopped (g.F.Shelf.files c.args.shelf.now) c.args.query.now (map string_bytes c.args.names.now) c.as_slice.result.now c.load_documents.new.pool c.in-Ok-compile_text.typed c.in-Err-load_documents.status
    (subst (IsWithin (g.F.Shelf.files c.args.shelf.now) query_limit c.args.query.now) (sym c.as_slice.ensures.value) c.in-Ok.ensures.read)
    (c.in-Ok-compile_text.ensures.compiled c.load_documents.new.pool c.load_documents.ensures.grown).0
    (subst (λ z. StopsAt z (map string_bytes c.args.names.now) c.in-Err-load_documents.status) c.in-Ok.ensures.files c.in-Err-load_documents.ensures.loads)
