use Rattle.std.proofs.Common.{sym, ap, ◌∙◌, subst}
use Rattle.xq_base.specs.Answers.{Value}
use Rattle.doc_table.specs.Stores.{FindsDoc}
use Rattle.doc_table.proofs.Documents.{have_roots, root_given, root_meaning, found_document, missing_document}
use Rattle.xq_funs.proofs.Ordered.{text_is}
use Rattle.xq_funs.proofs.documents.find_document.Goals as goal

pub returns-in-Some : goal.returns-in-Some
returns-in-Some c = λ wants.
    let texts = c.args.pool.now in
    let h = c.args.store.now in
    let name = text_is texts c.args.name c.text.result.now c.text.ensures.given in
    let roots = have_roots h c.validity.ensures.documents in (
      found_document texts h _ c.in-Some.rank c.text.ensures.different c.requires.names c.validity.ensures.names c.in-Some.ensures.0 c.in-Some.ensures.1 (c.in-Some.ensures.2 ∙ sym name)
          ∙ ap (λ z. Value z) (sym (root_meaning texts h c.in-Some.rank c.in-Some.ensures.0 roots c.in-Some.ensures.1)),
      (root_given texts h c.in-Some.rank c.in-Some.ensures.0 roots c.in-Some.ensures.1).0,
    )

pub returns-in-None : goal.returns-in-None
returns-in-None c = λ wants.
    missing_document c.args.pool.now c.args.store.now _ (subst (λ t. FindsDoc c.args.pool.now c.args.store.now.docs t Rattle.std.specs.Prelude.None) (sym (text_is c.args.pool.now c.args.name c.text.result.now c.text.ensures.given)) c.in-None.ensures)
