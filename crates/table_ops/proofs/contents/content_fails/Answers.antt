use Rattle.std.proofs.Common.{◌∙◌, ◌^◌, [], ap, map}
use Rattle.indexmap.specs.IndexSet.{insert_all}
use Rattle.xq_funs.proofs.Later.{trees_given_later}
use Rattle.table_ops.specs.Chains.{places_of}
use Rattle.table_ops.specs.Columns.{cell_of}
use Rattle.table_ops.specs.Contents.{content_fails_with}
use Rattle.table_ops.specs.Keys.{item_eq}
use Rattle.table_ops.proofs.AggregateLaws.{groups_few}
use Rattle.table_ops.proofs.ContentLaws.{content_fails_whole, content_fails_given}
use Rattle.table_ops.proofs.MapLaws.{rows_given_later}
use Rattle.table_ops.proofs.Selecting.{few_cells}
use Rattle.table_ops.proofs.contents.content_fails.Goals as goal

pub failing_groups-requires-clause-few : goal.failing_groups-requires-clause-few
failing_groups-requires-clause-few c =
    groups_few (2 ^ 32) c.cells-cells.result.now c.deref.result.now (c.deref.ensures.value ∙ c.in_ok-groups.ensures) (few_cells (2 ^ 32) c.args.input.now.cols c.args.iter c.args.input.now.rows c.cells-cells.result.now c.cells-cells.ensures c.requires.few)

pub failing_groups-requires-clause-rows : goal.failing_groups-requires-clause-rows
failing_groups-requires-clause-rows c = rows_given_later c.args.pool.now c.tell_apart.new.pool c.args.store.now c.tell_apart.ensures.keeps c.requires.trees c.args.input.now.rows c.requires.rows

pub failing_groups-requires-clause-trees : goal.failing_groups-requires-clause-trees
failing_groups-requires-clause-trees c = trees_given_later c.args.pool.now c.tell_apart.new.pool c.tell_apart.ensures.keeps c.args.store.now c.requires.trees

pub returns-clause-rows : goal.returns-clause-rows
returns-clause-rows c =
    content_fails_whole c.args.pool.now c.tell_apart.new.pool c.args.store.now c.tell_apart.ensures.keeps c.requires.trees c.in_ok-tell_apart.ensures.different c.args.input.now c.requires.rows c.args.place c.args.code c.args.iter c.args.pos c.args.item
    c.in_ok-index.index c.in_ok-groups.groups.items c.in_ok-names.names.items c.in_ok-places.places.items (c.in_ok-index.ensures ∙ c.cells-cells.ensures) (c.in_ok-groups.ensures ∙ ap (insert_all item_eq []) c.cells-cells.ensures)
    (c.in_ok-places.ensures ∙ ap (places_of (content_fails_with c.tell_apart.new.pool c.args.store.now c.args.place c.args.code c.args.input.now.cols c.args.pos c.args.item c.args.input.now.rows c.in_ok-index.index) 0) c.deref.ensures.value)
    (c.in_ok-names.ensures ∙ (λ i. map (cell_of (c.deref-2.ensures.value i)) (c.deref-3.ensures.value i)))
    c.single.result c.single.ensures

pub returns-clause-given : goal.returns-clause-given
returns-clause-given c =
    content_fails_given c.args.pool.now c.tell_apart.new.pool c.args.store.now c.tell_apart.ensures.keeps c.requires.trees c.in_ok-tell_apart.ensures.different c.args.input.now c.requires.rows c.args.place c.args.code c.args.iter c.args.pos c.args.item
    c.in_ok-index.index c.in_ok-groups.groups.items c.in_ok-names.names.items c.in_ok-places.places.items (c.in_ok-index.ensures ∙ c.cells-cells.ensures) (c.in_ok-groups.ensures ∙ ap (insert_all item_eq []) c.cells-cells.ensures)
    (c.in_ok-places.ensures ∙ ap (places_of (content_fails_with c.tell_apart.new.pool c.args.store.now c.args.place c.args.code c.args.input.now.cols c.args.pos c.args.item c.args.input.now.rows c.in_ok-index.index) 0) c.deref.ensures.value)
    (c.in_ok-names.ensures ∙ (λ i. map (cell_of (c.deref-2.ensures.value i)) (c.deref-3.ensures.value i)))
    c.single.result c.single.ensures
