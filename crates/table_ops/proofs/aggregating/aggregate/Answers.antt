use Rattle.std.proofs.Common.{◌∙◌, ◌^◌, [], ap, map}
use Rattle.indexmap.specs.IndexSet.{insert_all}
use Rattle.doc_table.specs.Documents.{documents_in}
use Rattle.doc_table.specs.StoredItems.{meanings}
use Rattle.plan_dag.specs.ItemRules.{group_outcome}
use Rattle.xq_funs.proofs.Later.{trees_given_later}
use Rattle.table_ops.specs.Attempts.{valued}
use Rattle.table_ops.specs.Columns.{cell_of}
use Rattle.table_ops.specs.Keys.{item_eq}
use Rattle.table_ops.specs.Wholes.{members}
use Rattle.table_ops.proofs.AggregateLaws.{column_given, groups_few, aggregate_few, aggregate_high, aggregate_whole, aggregate_given}
use Rattle.table_ops.proofs.Selecting.{few_cells}
use Rattle.table_ops.proofs.aggregating.aggregate.Goals as goal

pub wholes-requires-clause-few : goal.wholes-requires-clause-few
wholes-requires-clause-few c =
    groups_few (2 ^ 32) c.cells-cells.result.now c.deref.result.now (c.deref.ensures.value ∙ c.in_ok-groups.ensures) (few_cells (2 ^ 32) c.args.input.now.cols c.args.group c.args.input.now.rows c.cells-cells.result.now c.cells-cells.ensures c.requires.few)

pub wholes-requires-clause-index : goal.wholes-requires-clause-index
wholes-requires-clause-index c = few_cells (2 ^ 32) c.args.input.now.cols c.args.group c.args.input.now.rows c.in_ok-index.index (c.in_ok-index.ensures ∙ c.cells-cells.ensures) c.requires.few

pub wholes-requires-clause-values : goal.wholes-requires-clause-values
wholes-requires-clause-values c = column_given c.args.pool.now c.args.store.now c.args.input.now.cols c.args.value c.args.input.now.rows c.cells-values.result.now c.cells-values.ensures c.requires.rows

pub beside-requires : goal.beside-requires
beside-requires c = record {
  few = aggregate_few c.args.pool.now c.wholes.new.pool c.tell_apart.new.pool c.args.store.now c.wholes.ensures.keeps c.tell_apart.ensures.keeps c.requires.trees c.in_ok-tell_apart.ensures.different c.args.input.now c.requires.rows c.args.agg c.args.group c.args.value
      c.in_ok-index.index c.in_ok-groups.groups.items c.cells-values.result.now (c.in_ok-index.ensures ∙ c.cells-cells.ensures) (c.in_ok-groups.ensures ∙ ap (insert_all item_eq []) c.cells-cells.ensures) c.cells-values.ensures
      c.args.col c.in_ok-found.found.items c.in_ok-places.places.items c.in_ok-names.names.items c.in_ok-results.results.items c.in_ok-left.left c.in_ok-right.right
      (c.in_ok-places.ensures ∙ ap (map (λ p. p.0)) c.deref-2.ensures.value) (c.in_ok-names.ensures ∙ (λ i. map (cell_of (c.deref-3.ensures.value i)) (c.deref-4.ensures.value i))) (c.in_ok-results.ensures ∙ ap (map (λ p. p.1)) c.deref-5.ensures.value) c.in_ok-left.ensures c.in_ok-right.ensures;
  as_high = aggregate_high c.args.pool.now c.wholes.new.pool c.tell_apart.new.pool c.args.store.now c.wholes.ensures.keeps c.tell_apart.ensures.keeps c.requires.trees c.in_ok-tell_apart.ensures.different c.args.input.now c.requires.rows c.args.agg c.args.group c.args.value
      c.in_ok-index.index c.in_ok-groups.groups.items c.cells-values.result.now (c.in_ok-index.ensures ∙ c.cells-cells.ensures) (c.in_ok-groups.ensures ∙ ap (insert_all item_eq []) c.cells-cells.ensures) c.cells-values.ensures
      c.args.col c.in_ok-found.found.items c.in_ok-places.places.items c.in_ok-names.names.items c.in_ok-results.results.items c.in_ok-left.left c.in_ok-right.right
      (c.in_ok-places.ensures ∙ ap (map (λ p. p.0)) c.deref-2.ensures.value) (c.in_ok-names.ensures ∙ (λ i. map (cell_of (c.deref-3.ensures.value i)) (c.deref-4.ensures.value i))) (c.in_ok-results.ensures ∙ ap (map (λ p. p.1)) c.deref-5.ensures.value) c.in_ok-left.ensures c.in_ok-right.ensures;
}

pub returns-clause-rows : goal.returns-clause-rows
returns-clause-rows c =
    aggregate_whole c.args.pool.now c.wholes.new.pool c.tell_apart.new.pool c.args.store.now c.wholes.ensures.keeps c.tell_apart.ensures.keeps c.requires.trees c.in_ok-tell_apart.ensures.different c.args.input.now c.requires.rows c.args.agg c.args.group c.args.value
    c.in_ok-index.index c.in_ok-groups.groups.items c.cells-values.result.now (c.in_ok-index.ensures ∙ c.cells-cells.ensures) (c.in_ok-groups.ensures ∙ ap (insert_all item_eq []) c.cells-cells.ensures) c.cells-values.ensures
    c.args.col c.in_ok-found.found.items c.in_ok-places.places.items c.in_ok-names.names.items c.in_ok-results.results.items c.in_ok-left.left c.in_ok-right.right
    (c.in_ok-places.ensures ∙ ap (map (λ p. p.0)) c.deref-2.ensures.value) (c.in_ok-names.ensures ∙ (λ i. map (cell_of (c.deref-3.ensures.value i)) (c.deref-4.ensures.value i))) (c.in_ok-results.ensures ∙ ap (map (λ p. p.1)) c.deref-5.ensures.value) c.in_ok-left.ensures c.in_ok-right.ensures
    c.beside.result c.in_ok-found.ensures.given (trees_given_later c.args.pool.now c.wholes.new.pool c.wholes.ensures.keeps c.args.store.now c.requires.trees)
    (c.in_ok-found.ensures.found ∙ ap (valued (λ v. group_outcome (documents_in c.args.pool.now c.args.store.now) c.args.agg (meanings c.args.pool.now c.args.store.now (members c.in_ok-index.index c.cells-values.result.now v))) 0) c.deref.ensures.value)
    c.beside.ensures

pub returns-clause-given : goal.returns-clause-given
returns-clause-given c =
    aggregate_given c.args.pool.now c.wholes.new.pool c.tell_apart.new.pool c.args.store.now c.wholes.ensures.keeps c.tell_apart.ensures.keeps c.requires.trees c.in_ok-tell_apart.ensures.different c.args.input.now c.requires.rows c.args.agg c.args.group c.args.value
    c.in_ok-index.index c.in_ok-groups.groups.items c.cells-values.result.now (c.in_ok-index.ensures ∙ c.cells-cells.ensures) (c.in_ok-groups.ensures ∙ ap (insert_all item_eq []) c.cells-cells.ensures) c.cells-values.ensures
    c.args.col c.in_ok-found.found.items c.in_ok-places.places.items c.in_ok-names.names.items c.in_ok-results.results.items c.in_ok-left.left c.in_ok-right.right
    (c.in_ok-places.ensures ∙ ap (map (λ p. p.0)) c.deref-2.ensures.value) (c.in_ok-names.ensures ∙ (λ i. map (cell_of (c.deref-3.ensures.value i)) (c.deref-4.ensures.value i))) (c.in_ok-results.ensures ∙ ap (map (λ p. p.1)) c.deref-5.ensures.value) c.in_ok-left.ensures c.in_ok-right.ensures
    c.beside.result c.in_ok-found.ensures.given (trees_given_later c.args.pool.now c.wholes.new.pool c.wholes.ensures.keeps c.args.store.now c.requires.trees) c.beside.ensures
