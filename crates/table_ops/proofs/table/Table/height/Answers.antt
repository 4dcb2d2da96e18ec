use Rattle.std.proofs.Common.{length, ap, sym, ◌∙◌}
use Rattle.xq_base.specs.declared.item.Item.{Item}
use Rattle.plan_dag.specs.Meaning.{Table as Rows}
use Rattle.table_ops.specs.Columns.{heads}
use Rattle.table_ops.proofs.Rowing.{as_many_rows}
use Rattle.table_ops.proofs.table.Table.height.Goals as goal

pub returns : goal.returns
returns c = sym (as_many_rows (heads c.self.inside.height c.self.inside.columns.items) c.self.inside.height) ∙ ap (λ (t : Rows Item). length t.rows) c.self.view_is
