use Rattle.std.proofs.Common.{◌∙◌, ap, sym, false}
use Rattle.xq_base.specs.Answers.{Value}
use Rattle.doc_table.specs.Documents.{documents_in}
use Rattle.doc_table.specs.StoredItems.{trees_of}
use Rattle.table_ops.proofs.ReadLaws.{spelled_item, spelled_none}
use Rattle.table_ops.proofs.reading.spelled.Goals as goal

pub returns-in-Ok-clause-read : goal.returns-in-Ok-clause-read
returns-in-Ok-clause-read c =
    let s = spelled_item (documents_in c.args.pool.now c.args.store.now) c.args.pool.now c.call.new.pool c.args.store.now false c.args.text c.in-Ok.item c.in-Ok.ensures.value in
    s.2 ∙ ap Value (sym (c.atom_of.ensures.value c.call.new.pool (trees_of c.args.store.now) ∙ s.1.value))

pub returns-in-Err-Code-clause-read : goal.returns-in-Err-Code-clause-read
returns-in-Err-Code-clause-read c = spelled_none (documents_in c.args.pool.now c.args.store.now) c.args.pool.now c.call.new.pool c.args.store.now _ c.args.text c.in-Err-Code.field-0 c.in-Err-Code.field-0-0 c.in-Err-Code.field-0-is c.in-Err-Code.ensures.value
