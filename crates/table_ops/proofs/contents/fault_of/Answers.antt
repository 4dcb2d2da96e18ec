use Rattle.std.proofs.Common.{◌∙◌, ap, sym}
use Rattle.doc_table.specs.StoredItems.{meanings}
use Rattle.plan_dag.specs.ItemRules.{content_fault}
use Rattle.table_ops.proofs.FaultLaws.{document_is}
use Rattle.table_ops.proofs.contents.fault_of.Goals as goal

pub returns-in-Document : goal.returns-in-Document
returns-in-Document c =
    c.document_fault.ensures
    ∙ document_is c.args.pool.now c.args.store.now c.validity.ensures.kept c.requires.trees c.requires.first c.requires.once c.args.cells.now c.requires.items c.deref.result.now (c.deref.ensures.value ∙ c.in_ok-parts.ensures)
    ∙ ap (λ z. content_fault z (meanings c.args.pool.now c.args.store.now c.args.cells.now)) (sym c.in-Document.is)
