use Rattle.std.proofs.Common.{sym, ap, ◌∙◌}
use Rattle.std.specs.Option.{option_copied}
use Rattle.doc_table.specs.Nodes.{name_from}
use Rattle.xq_funs.proofs.NodeLaws.{named_under, under_key, tree_given_under}
use Rattle.xq_funs.proofs.node_values.name_id.Goals as goal

pub name_in-requires : goal.name_in-requires
name_in-requires c = named_under c.args.store.now c.args.node c.in-Some.frag.now c.requires (sym c.get.ensures ∙ ap option_copied c.in-Some.is)

pub returns-clause-value : goal.returns-clause-value
returns-clause-value c = λ texts. c.name_in.ensures.value texts ∙ under_key name_from texts c.args.store.now c.args.node c.in-Some.frag.now (sym c.get.ensures ∙ ap option_copied c.in-Some.is)

pub returns-clause-given : goal.returns-clause-given
returns-clause-given c = λ n g. c.name_in.ensures.given n (tree_given_under n c.args.store.now c.args.node.frag c.in-Some.frag.now g (sym c.get.ensures ∙ ap option_copied c.in-Some.is))
