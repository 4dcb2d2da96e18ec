use Rattle.std.proofs.Common.{◌∷◌, [], Ok, true, false, sym, ap, subst}
use Rattle.std.proofs.lemmas.Bool.{false≢true}
use Rattle.xq_base.specs.declared.fun.Fun.TheVariants as f
use Rattle.doc_table.specs.Documents.{documents_in}
use Rattle.doc_table.specs.Functions.{fun_answer}
use Rattle.xq_funs.specs.Calls.{Gives, values}
use Rattle.xq_funs.specs.CallRules.{wants_memory}
use Rattle.xq_funs.proofs.Calling.{gives_more}
use Rattle.xq_funs.proofs.calls.call_node.Goals as goal

pub returns-in-Root-clause-value : goal.returns-in-Root-clause-value
returns-in-Root-clause-value c =
    let docs = documents_in c.args.pool.now c.args.store.now in
    subst (λ g. Gives (wants_memory g (c.args.item ∷ [])) c.args.pool.now c.args.store.now (fun_answer docs g (values c.args.pool.now c.args.store.now (c.args.item ∷ []))) c.call_root.result) (sym c.in-Root.is)
    (gives_more false (wants_memory f.Root (c.args.item ∷ [])) c.args.pool.now c.args.store.now _ c.call_root.result (λ e. absurd (false≢true e)) (c.call_root.ensures docs))

pub returns-in-IsKind-clause-value : goal.returns-in-IsKind-clause-value
returns-in-IsKind-clause-value c =
    let docs = documents_in c.args.pool.now c.args.store.now in
    subst (λ g. Gives false c.args.pool.now c.args.store.now (fun_answer docs g (values c.args.pool.now c.args.store.now (c.args.item ∷ []))) (Ok c.call_kind.result)) (sym c.in-IsKind.is) (c.call_kind.ensures docs)

pub returns-in-Name-clause-value : goal.returns-in-Name-clause-value
returns-in-Name-clause-value c =
    gives_more true (wants_memory c.args.fun (c.args.item ∷ [])) c.give_name.new.pool c.args.store.now _ c.give_name.result (λ _. ap (λ g. wants_memory g (c.args.item ∷ [])) c.in-Name.is) (c.give_name.ensures.value (documents_in c.args.pool.now c.args.store.now))

pub returns-in-LocalName-clause-value : goal.returns-in-LocalName-clause-value
returns-in-LocalName-clause-value c =
    gives_more true (wants_memory c.args.fun (c.args.item ∷ [])) c.give_name-in-LocalName.new.pool c.args.store.now _ c.give_name-in-LocalName.result (λ _. ap (λ g. wants_memory g (c.args.item ∷ [])) c.in-LocalName.is) (c.give_name-in-LocalName.ensures.value (documents_in c.args.pool.now c.args.store.now))
