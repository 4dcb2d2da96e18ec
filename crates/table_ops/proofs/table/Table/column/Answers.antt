use Rattle.std.proofs.Common.{ap, subst, ◌∙◌, ◌≡◌, IfSome}
use Rattle.xq_base.specs.declared.item.Item.{Item}
use Rattle.plan_dag.specs.Schema.{has_col}
use Rattle.plan_dag.specs.Meaning.{Table as Rows}
use Rattle.table_ops.specs.Columns.{cells_at}
use Rattle.table_ops.proofs.Columning.{lent_found, lent_cells}
use Rattle.table_ops.proofs.table.Table.column.Goals as goal

pub returns-clause-cells : goal.returns-clause-cells
returns-clause-cells c =
    subst (λ (t : Rows Item). IfSome c.lent.result (λ s. s.now ≡ cells_at t.cols c.args.col t.rows)) c.self.view_is
    (lent_cells (λ s. s.now) _ c.self.inside.cols _ c.self.inside.columns.items c.self.inside.height c.args.col c.as_slice.ensures.same c.deref.ensures.value c.self.invariant c.lent.result c.lent.ensures)

pub returns-clause-found : goal.returns-clause-found
returns-clause-found c =
    lent_found (λ s. s.now) _ c.self.inside.cols _ c.self.inside.columns.items c.self.inside.height c.args.col c.as_slice.ensures.same c.deref.ensures.value c.self.invariant c.lent.result c.lent.ensures
    ∙ ap (λ (t : Rows Item). has_col t.cols c.args.col) c.self.view_is
