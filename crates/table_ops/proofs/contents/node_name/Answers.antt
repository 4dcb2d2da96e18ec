use Rattle.std.proofs.Common.{sym, ap, ◌∙◌}
use Rattle.std.specs.Option.{option_copied}
use Rattle.xq_funs.proofs.NodeLaws.{tree_given_under}
use Rattle.table_ops.proofs.contents.node_name.Goals as goal

pub returns-clause-given : goal.returns-clause-given
returns-clause-given c = λ n g. c.place_name.ensures.given n (tree_given_under n c.args.store.now c.args.node.frag c.in-Some.frag.now g (sym c.get.ensures ∙ ap option_copied c.in-Some.is))
