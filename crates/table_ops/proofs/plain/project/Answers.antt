use Rattle.std.proofs.Common.{List, ap, sym, ◌∙◌, map, length}
use Rattle.plan_dag.specs.Schema.{has_cols}
use Rattle.table_ops.specs.Columns.{cells_of}
use Rattle.table_ops.proofs.Combining.{if_ok_is, whole}
use Rattle.table_ops.proofs.Lists.{map_long}
use Rattle.table_ops.proofs.plain.project.Goals as goal

pub choose-requires : goal.choose-requires
choose-requires c = record {
  as_many = ap (λ (z : List _). length z) c.new_names-names.ensures ∙ map_long (λ p. p.new) c.args.pairs.now ∙ sym (map_long (λ p. p.old) c.args.pairs.now) ∙ ap (λ (z : List _). length z) (sym (c.as_slice.ensures.same ∙ c.old_names-wanted.ensures));
  there = ap (has_cols c.args.input.now.cols) (c.as_slice.ensures.same ∙ c.old_names-wanted.ensures) ∙ c.requires;
}

pub returns : goal.returns
returns c =
    if_ok_is c.choose.result _ _ (λ i. whole (c.new_names-names.ensures i) (map (cells_of c.args.input.now.cols ((c.as_slice.ensures.same ∙ c.old_names-wanted.ensures) i)) c.args.input.now.rows)) c.choose.ensures
