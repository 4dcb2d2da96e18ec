use Rattle.std.proofs.Common.{◌∷◌, [], refl, sym, ap, ◌∙◌}
use Rattle.xq_base.specs.Answers.{Value, with_value}
use Rattle.doc_table.specs.Items.{NodeItem}
use Rattle.doc_table.specs.NodeRules.{root_of_node}
use Rattle.doc_table.specs.StoredItems.{trees_of}
use Rattle.xq_funs.proofs.nodes.call_root.Goals as goal

pub root_of-requires : goal.root_of-requires
root_of-requires c = c.in-Ok.ensures.given c.args.pool.now c.args.store.now c.requires c.in-Ok.node refl

pub returns-in-Ok : goal.returns-in-Ok
returns-in-Ok c = λ docs.
    (ap (with_value root_of_node) (sym (c.in-Ok.ensures.value c.args.pool.now (trees_of c.args.store.now))) ∙ ap (λ n. Value (NodeItem n ∷ [])) (sym (c.root_of.ensures.value c.args.pool.now)), c.root_of.ensures.given)

pub returns-in-Err : goal.returns-in-Err
returns-in-Err c = λ docs. ap (with_value root_of_node) (sym (c.in-Err.ensures.value c.args.pool.now (trees_of c.args.store.now)))
