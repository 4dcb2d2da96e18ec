use Rattle.std.proofs.Common.{ap, ◌∙◌, map}
use Rattle.plan_dag.specs.Schema.{has_cols}
use Rattle.plan_dag.specs.Meaning.{Table as Rows}
use Rattle.xq_base.specs.declared.item.Item.{Item}
use Rattle.table_ops.specs.Columns.{column_or, cells_in}
use Rattle.table_ops.proofs.Combining.{chosen_keeps, chosen_whole}
use Rattle.table_ops.proofs.table.Table.choose.Goals as goal

pub made-requires : goal.made-requires
made-requires c =
    chosen_keeps c.self.inside.cols c.args.wanted.now c.args.names c.self.inside.columns.items c.in_ok-columns.columns.items c.self.inside.height c.self.invariant c.requires.as_many
    (ap (λ (t : Rows Item). has_cols t.cols c.args.wanted.now) c.self.view_is ∙ c.requires.there)
    (c.in_ok-columns.ensures ∙ (λ i. map (column_or (c.as_slice.ensures.same i) (cells_in (c.deref.ensures.value i))) c.args.wanted.now))

pub returns : goal.returns
returns c =
    chosen_whole c.args.self.now c.made.result c.self.inside.cols c.self.inside.columns.items _ c.in_ok-columns.columns.items c.self.inside.height c.self.view_is c.deref.ensures.value _ c.args.names c.args.wanted.now c.as_slice.ensures.same c.made.ensures c.in_ok-columns.ensures
