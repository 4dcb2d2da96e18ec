use Rattle.std.proofs.Common.{◌∷◌, [], sym, ap, ◌∙◌, ◌+◌, refl, subst}
use Rattle.xq_base.specs.Answers.{Value}
use Rattle.doc_table.proofs.Documents.{have_roots, root_given, root_meaning, found_document, missing_document}
use Rattle.doc_table.proofs.Finds.{text-at}
use Rattle.doc_table.specs.StoredItems.{meanings}
use Rattle.query_engine.specs.Evaluating.{AllFit}
use Rattle.query_engine.proofs.EvalLaws.{rule_plain}
use Rattle.query_engine.proofs.evaluate.Evaluator.document.Goals as goal

pub returns-in-Some : goal.returns-in-Some
returns-in-Some c =
    let texts = c.args.self.now.pool.now in
    let h = c.args.self.now.store.now in
    let d = c.in-Some.ensures in
    let roots = have_roots h c.validity.ensures.documents in
    let named = text-at texts c.args.name c.text.result.now c.text.ensures.given in
    rule_plain c.args.self.now.sums texts h (c.args.site + 1) c.in_ok-own.own c.args.offset _ (c.root.result ∷ []) c.copied.result c.in_ok-own.ensures.number c.copied.ensures.value c.copied.ensures.fault
    (found_document texts h _ c.in-Some.rank c.text.ensures.different c.requires.names c.validity.ensures.names d.0 d.1 (d.2 ∙ sym named)
    ∙ ap (λ v. Value v) (sym (root_meaning texts h c.in-Some.rank d.0 roots d.1)) ∙ ap (λ x. Value (meanings texts h (x ∷ []))) (sym c.root.ensures))
    (subst (λ x. AllFit c.args.self.now.sums h (x ∷ [])) (sym c.root.ensures) ((c.requires.sums, (root_given texts h c.in-Some.rank d.0 roots d.1).0), tt))

pub returns-in-None : goal.returns-in-None
returns-in-None c =
    let texts = c.args.self.now.pool.now in
    (missing_document texts c.args.self.now.store.now _ (λ n d e q. c.in-None.ensures n d e (q ∙ text-at texts c.args.name c.text.result.now c.text.ensures.given)), c.in_ok-own.ensures.number, refl)
