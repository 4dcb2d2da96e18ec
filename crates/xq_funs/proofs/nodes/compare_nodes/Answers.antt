use Rattle.std.proofs.Common.{Some, sym, ap, ◌∙◌}
use Rattle.xq_base.specs.Answers.{Value, with_value}
use Rattle.doc_table.specs.Tree.{with_texts}
use Rattle.doc_table.specs.Identity.{node_of}
use Rattle.doc_table.specs.Items.{item_of}
use Rattle.doc_table.specs.NodeRules.{on_both}
use Rattle.doc_table.specs.Sequences.{bool_items}
use Rattle.doc_table.specs.Stores.{tree_at}
use Rattle.doc_table.specs.StoredItems.{trees_of, IsNodeOf}
use Rattle.xq_funs.specs.Answering.{answer_of}
use Rattle.xq_funs.specs.NodeCalls.{nodes_stand}
use Rattle.xq_funs.proofs.TextLaws.{first_given, second_given, pair_is}
use Rattle.xq_funs.proofs.NodeLaws.{compared, stand}
use Rattle.xq_funs.proofs.nodes.compare_nodes.Goals as goal

pub returns-in-Ok : goal.returns-in-Ok
returns-in-Ok c =
    let texts = c.args.pool.now in
    let h = c.args.store.now in
    let first = first_given (λ r. IsNodeOf h r (tree_at h r.frag)) c.node_in.result c.node_in-2.result c.in-Ok.m c.in-Ok.n c.in-Ok.ensures (c.node_in.ensures.given texts h c.requires.a) in
    let second = second_given (λ r. IsNodeOf h r (tree_at h r.frag)) c.node_in.result c.node_in-2.result c.in-Ok.m c.in-Ok.n c.in-Ok.ensures (c.node_in-2.ensures.given texts h c.requires.b) in
    let both = pair_is (λ r. Some (node_of (λ key. with_texts texts (trees_of h key)) r)) (λ r. Some (node_of (λ key. with_texts texts (trees_of h key)) r)) (answer_of c.node_in.result) (answer_of c.node_in-2.result) _ _ _ c.in-Ok.ensures (c.node_in.ensures.value texts (trees_of h)) (c.node_in-2.ensures.value texts (trees_of h)) in
    λ docs. (
      compared docs c.args.fun (item_of texts (trees_of h) c.args.a) (item_of texts (trees_of h) c.args.b) c.requires.fun ∙ ap (with_value (on_both (nodes_stand c.args.fun))) both
          ∙ ap (λ b. Value (bool_items b)) (sym (c.stands.ensures ∙ stand texts h c.args.fun c.in-Ok.m c.in-Ok.n first second)),
      tt,
    )

pub returns-in-Err : goal.returns-in-Err
returns-in-Err c =
    let texts = c.args.pool.now in
    let h = c.args.store.now in
    let both = pair_is (λ r. Some (node_of (λ key. with_texts texts (trees_of h key)) r)) (λ r. Some (node_of (λ key. with_texts texts (trees_of h key)) r)) (answer_of c.node_in.result) (answer_of c.node_in-2.result) _ _ _ c.in-Err.ensures (c.node_in.ensures.value texts (trees_of h)) (c.node_in-2.ensures.value texts (trees_of h)) in
    λ docs. compared docs c.args.fun (item_of texts (trees_of h) c.args.a) (item_of texts (trees_of h) c.args.b) c.requires.fun ∙ ap (with_value (on_both (nodes_stand c.args.fun))) both
