use Rattle.std.proofs.Common.{◌∙◌, ◌^◌, [], ap, map}
use Rattle.indexmap.specs.IndexSet.{insert_all}
use Rattle.doc_table.specs.Documents.{documents_in}
use Rattle.doc_table.specs.StoredItems.{meanings}
use Rattle.plan_dag.specs.Cells.{code_in}
use Rattle.plan_dag.specs.ItemRules.{group_outcome}
use Rattle.plan_dag.specs.Rows.{is_code}
use Rattle.table_ops.specs.Chains.{places_of}
use Rattle.table_ops.specs.Columns.{cell_of}
use Rattle.table_ops.specs.Keys.{item_eq}
use Rattle.table_ops.specs.Wholes.{members}
use Rattle.table_ops.proofs.AggregateLaws.{column_given, groups_few, aggregate_fails_whole, aggregate_fails_given}
use Rattle.table_ops.proofs.Selecting.{few_cells}
use Rattle.table_ops.proofs.aggregating.aggregate_fails.Goals as goal

pub failing_groups-requires-clause-few : goal.failing_groups-requires-clause-few
failing_groups-requires-clause-few c =
    groups_few (2 ^ 32) c.cells-cells.result.now c.deref.result.now (c.deref.ensures.value ∙ c.in_ok-groups.ensures) (few_cells (2 ^ 32) c.args.input.now.cols c.args.group c.args.input.now.rows c.cells-cells.result.now c.cells-cells.ensures c.requires.few)

pub failing_groups-requires-clause-index : goal.failing_groups-requires-clause-index
failing_groups-requires-clause-index c = few_cells (2 ^ 32) c.args.input.now.cols c.args.group c.args.input.now.rows c.in_ok-index.index (c.in_ok-index.ensures ∙ c.cells-cells.ensures) c.requires.few

pub failing_groups-requires-clause-values : goal.failing_groups-requires-clause-values
failing_groups-requires-clause-values c = column_given c.args.pool.now c.args.store.now c.args.input.now.cols c.args.value c.args.input.now.rows c.cells-values.result.now c.cells-values.ensures c.requires.rows

pub returns-clause-rows : goal.returns-clause-rows
returns-clause-rows c =
    aggregate_fails_whole c.args.pool.now c.failing_groups.new.pool c.tell_apart.new.pool c.args.store.now c.failing_groups.ensures.keeps c.tell_apart.ensures.keeps c.requires.trees c.in_ok-tell_apart.ensures.different c.args.input.now c.requires.rows c.args.agg c.args.group c.args.value
    c.in_ok-index.index c.in_ok-groups.groups.items c.cells-values.result.now (c.in_ok-index.ensures ∙ c.cells-cells.ensures) (c.in_ok-groups.ensures ∙ ap (insert_all item_eq []) c.cells-cells.ensures) c.cells-values.ensures
    c.args.code c.in_ok-places.places.items c.in_ok-names.names.items
    (c.in_ok-places.ensures.places ∙ ap (places_of (λ v. is_code c.args.code (code_in (group_outcome (documents_in c.args.pool.now c.args.store.now) c.args.agg (meanings c.args.pool.now c.args.store.now (members c.in_ok-index.index c.cells-values.result.now v))))) 0) c.deref.ensures.value)
    (c.in_ok-names.ensures ∙ (λ i. map (cell_of (c.deref-2.ensures.value i)) (c.deref-3.ensures.value i)))
    c.single.result c.single.ensures

pub returns-clause-given : goal.returns-clause-given
returns-clause-given c =
    aggregate_fails_given c.args.pool.now c.failing_groups.new.pool c.tell_apart.new.pool c.args.store.now c.failing_groups.ensures.keeps c.tell_apart.ensures.keeps c.requires.trees c.in_ok-tell_apart.ensures.different c.args.input.now c.requires.rows c.args.agg c.args.group c.args.value
    c.in_ok-index.index c.in_ok-groups.groups.items c.cells-values.result.now (c.in_ok-index.ensures ∙ c.cells-cells.ensures) (c.in_ok-groups.ensures ∙ ap (insert_all item_eq []) c.cells-cells.ensures) c.cells-values.ensures
    c.args.code c.in_ok-places.places.items c.in_ok-names.names.items
    (c.in_ok-places.ensures.places ∙ ap (places_of (λ v. is_code c.args.code (code_in (group_outcome (documents_in c.args.pool.now c.args.store.now) c.args.agg (meanings c.args.pool.now c.args.store.now (members c.in_ok-index.index c.cells-values.result.now v))))) 0) c.deref.ensures.value)
    (c.in_ok-names.ensures ∙ (λ i. map (cell_of (c.deref-2.ensures.value i)) (c.deref-3.ensures.value i)))
    c.single.result c.single.ensures
