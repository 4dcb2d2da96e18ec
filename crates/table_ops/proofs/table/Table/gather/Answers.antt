use Rattle.std.proofs.Common.{ap, ◌∙◌}
use Rattle.table_ops.specs.Columns.{heads, gathered}
use Rattle.table_ops.proofs.Combining.{gathered_keeps, gathered_whole}
use Rattle.table_ops.proofs.table.Table.gather.Goals as goal

pub made-requires : goal.made-requires
made-requires c = gathered_keeps c.self.inside.cols c.self.inside.columns.items c.in_ok-columns.columns.items c.self.inside.height c.args.places.now c.self.invariant (c.in_ok-columns.ensures ∙ ap (λ z. gathered c.args.places.now (heads c.self.inside.height z)) c.deref.ensures.value)

pub returns : goal.returns
returns c = gathered_whole c.args.self.now c.made.result c.self.inside.cols c.self.inside.columns.items _ c.in_ok-columns.columns.items c.self.inside.height c.self.view_is c.deref.ensures.value c.args.places.now c.requires c.made.ensures c.in_ok-columns.ensures
