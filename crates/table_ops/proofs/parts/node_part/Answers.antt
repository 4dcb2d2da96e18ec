use Rattle.std.proofs.Common.{length, sym, ap, ◌∙◌}
use Rattle.std.specs.Option.{option_copied}
use Rattle.xq_funs.proofs.NodeLaws.{tree_given_under}
use Rattle.table_ops.proofs.parts.node_part.Goals as goal

pub place_part-requires-clause-texts : goal.place_part-requires-clause-texts
place_part-requires-clause-texts c = tree_given_under (length c.args.pool.now) c.args.store.now c.args.node.frag c.in-Some.frag.now c.requires.trees (sym c.get.ensures ∙ ap option_copied c.in-Some.is)
