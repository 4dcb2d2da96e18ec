use Rattle.std.proofs.Common.{◌≡◌, sym, ap, ◌∙◌, cond}
use Rattle.std.specs.Option.{option_copied}
use Rattle.doc_table.specs.Tree.{with_texts}
use Rattle.doc_table.specs.Identity.{node_of}
use Rattle.doc_table.specs.StoredItems.{trees_of, IsNodeOf}
use Rattle.doc_table.specs.Stores.{tree_at}
use Rattle.xq_funs.proofs.NodeLaws.{root_is, root_named}
use Rattle.xq_funs.proofs.nodes.root_of.Goals as goal

pub returns-clause-value : goal.returns-clause-value
returns-clause-value c = λ texts.
    ap (λ k. node_of (λ key. with_texts texts (trees_of c.args.store.now key)) (record { frag = c.args.node.frag; pre = 0; attr = k })) c.root_attribute.ensures
    ∙ root_is texts c.args.store.now c.args.node c.in-Some.frag.now (sym c.get.ensures ∙ ap option_copied c.in-Some.is)

pub returns-clause-given : goal.returns-clause-given
returns-clause-given c =
    Rattle.std.proofs.Common.subst (λ k. IsNodeOf c.args.store.now (record { frag = c.args.node.frag; pre = 0; attr = k }) (tree_at c.args.store.now c.args.node.frag)) (sym c.root_attribute.ensures)
    (root_named c.args.store.now c.args.node c.in-Some.frag.now (sym c.get.ensures ∙ ap option_copied c.in-Some.is))
