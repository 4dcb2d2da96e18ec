use Rattle.std.proofs.Common.{◌∷◌, [], refl, sym, ap, ◌∙◌, subst, true}
use Rattle.xq_base.specs.Answers.{Value, with_value}
use Rattle.doc_table.specs.Items.{TextItem, item_of}
use Rattle.doc_table.specs.NodeRules.{name_or_empty}
use Rattle.doc_table.specs.StoredItems.{trees_of}
use Rattle.xq_funs.specs.Calls.{RuleGives}
use Rattle.xq_funs.specs.NodeCalls.{name_for}
use Rattle.xq_funs.proofs.NodeLaws.{naming}
use Rattle.xq_funs.proofs.node_values.call_name.Goals as goal

pub name_text-requires-clause-node : goal.name_text-requires-clause-node
name_text-requires-clause-node c = c.in-Ok.ensures.given c.args.pool.now c.args.store.now c.requires.item c.in-Ok.node refl

pub returns-in-Ok : goal.returns-in-Ok
returns-in-Ok c = λ docs.
    subst (λ z. RuleGives true c.args.pool.now z c.name_value.result)
    (ap (λ t. Value (TextItem (name_for c.args.fun t) ∷ [])) c.name_text.ensures
    ∙ ap (with_value (λ n. TextItem (name_for c.args.fun (name_or_empty n)) ∷ [])) (c.in-Ok.ensures.value c.args.pool.now (trees_of c.args.store.now))
    ∙ sym (naming docs c.args.fun (item_of c.args.pool.now (trees_of c.args.store.now) c.args.item) c.requires.fun))
    (c.name_value.ensures c.args.pool.now)

pub returns-in-Err : goal.returns-in-Err
returns-in-Err c = λ docs.
    naming docs c.args.fun (item_of c.args.pool.now (trees_of c.args.store.now) c.args.item) c.requires.fun
    ∙ ap (with_value (λ n. TextItem (name_for c.args.fun (name_or_empty n)) ∷ [])) (sym (c.in-Err.ensures.value c.args.pool.now (trees_of c.args.store.now)))
