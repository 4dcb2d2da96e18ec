use Rattle.std.proofs.Common.{sym, ap, ◌∙◌}
use Rattle.std.specs.Option.{option_copied}
use Rattle.doc_table.specs.Values.{kind_at}
use Rattle.xq_funs.proofs.NodeLaws.{named_under, under_key}
use Rattle.xq_funs.proofs.node_values.node_kind.Goals as goal

pub kind_in-requires : goal.kind_in-requires
kind_in-requires c = named_under c.args.store.now c.args.node c.in-Some.frag.now c.requires (sym c.get.ensures ∙ ap option_copied c.in-Some.is)

pub returns : goal.returns
returns c = λ texts. c.kind_in.ensures texts ∙ under_key kind_at texts c.args.store.now c.args.node c.in-Some.frag.now (sym c.get.ensures ∙ ap option_copied c.in-Some.is)
