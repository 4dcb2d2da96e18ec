use Rattle.std.proofs.Common.{List, ap, sym, ◌∙◌, ◌++◌, map, length}
use Rattle.plan_dag.specs.Meaning.{Table as Rows}
use Rattle.plan_dag.specs.Schema.{has_cols}
use Rattle.xq_base.specs.declared.item.Item.{Item}
use Rattle.table_ops.specs.Columns.{cells_of}
use Rattle.table_ops.proofs.Combining.{if_ok_is, whole}
use Rattle.table_ops.proofs.plain.union.Goals as goal

pub choose-requires : goal.choose-requires
choose-requires c = record {
  as_many = ap (λ (z : List _). length z) (sym c.as_slice.ensures.same);
  there = ap (has_cols c.args.right.now.cols) (c.as_slice.ensures.same ∙ c.names-names.ensures) ∙ c.requires;
}

pub stack-requires : goal.stack-requires
stack-requires c = ap (λ (z : List _). length z) (sym c.names-names.ensures) ∙ ap (λ (t : Rows Item). length t.cols) (sym c.in_ok-below.ensures)

pub returns : goal.returns
returns c =
    if_ok_is c.stack.result _ _
    (λ i. whole c.args.left.now.cols (c.args.left.now.rows ++ ((ap (λ (t : Rows Item). t.rows) c.in_ok-below.ensures ∙ ap (λ z. map (cells_of c.args.right.now.cols z) c.args.right.now.rows) (c.as_slice.ensures.same ∙ c.names-names.ensures)) i)))
    c.stack.ensures
