use Rattle.std.proofs.Common.{◌≡◌, ap, sym, ◌∙◌, length}
use Rattle.std.specs.Option.{option_copied}
use Rattle.std.specs.List.{list_all}
use Rattle.std.proofs.lemmas.Bool.{and_parts}
use Rattle.doc_table.specs.Given.{tree_given}
use Rattle.doc_table.proofs.Finds.{under-key}
use Rattle.doc_table.proofs.strings.string_value.Goals as goal

pub push_node-requires-clause-given : goal.push_node-requires-clause-given
push_node-requires-clause-given c =
    let p = and_parts (list_all (λ d. tree_given (length c.args.pool.now) d.1) c.args.store.now.docs) (list_all (λ b. tree_given (length c.args.pool.now) b.1) c.args.store.now.built) c.requires.trees in
    under-key (tree_given (length c.args.pool.now)) c.args.store.now c.args.node.frag c.in-Some.frag.now p.0 p.1 (sym c.get.ensures ∙ ap option_copied c.in-Some.is)
