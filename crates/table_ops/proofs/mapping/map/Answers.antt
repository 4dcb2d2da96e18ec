use Rattle.std.proofs.Common.{◌∙◌, ap, map}
use Rattle.plan_dag.specs.ItemRules.{fun_outcome}
use Rattle.plan_dag.specs.Meaning.{cells}
use Rattle.doc_table.specs.Documents.{documents_in}
use Rattle.doc_table.specs.StoredItems.{meanings}
use Rattle.table_ops.specs.Attempts.{valued}
use Rattle.table_ops.specs.Columns.{cells_of}
use Rattle.table_ops.proofs.MapLaws.{found_within, map_few, map_high, map_whole, map_given}
use Rattle.table_ops.proofs.mapping.map.Goals as goal

pub gather-requires : goal.gather-requires
gather-requires c =
    found_within (λ r. fun_outcome (documents_in c.args.pool.now c.args.store.now) c.args.fun (meanings c.args.pool.now c.args.store.now (cells_of c.args.input.now.cols c.as_slice.result.now r))) c.values.new.pool c.args.store.now c.args.input.now.rows c.in_ok-found.found.items c.deref-3.result.now
    c.in_ok-found.ensures.found (c.deref-3.ensures.value ∙ c.in_ok-places.ensures ∙ ap (map (λ p. p.0)) c.deref.ensures.value)

pub beside-requires : goal.beside-requires
beside-requires c = record {
  few = map_few c.args.pool.now c.values.new.pool c.args.store.now c.values.ensures.keeps c.requires.trees c.args.input.now c.requires.rows c.args.col c.in_ok-found.found.items c.deref-3.result.now c.in_ok-cells.cells.items c.in_ok-rows.rows c.in_ok-added.added
      (c.deref-3.ensures.value ∙ c.in_ok-places.ensures ∙ ap (map (λ p. p.0)) c.deref.ensures.value) (c.in_ok-cells.ensures ∙ ap (map (λ p. p.1)) c.deref-2.ensures.value) c.in_ok-rows.ensures c.in_ok-added.ensures c.requires.few_cols;
  as_high = map_high c.args.pool.now c.values.new.pool c.args.store.now c.values.ensures.keeps c.requires.trees c.args.input.now c.requires.rows c.args.col c.in_ok-found.found.items c.deref-3.result.now c.in_ok-cells.cells.items c.in_ok-rows.rows c.in_ok-added.added
      (c.deref-3.ensures.value ∙ c.in_ok-places.ensures ∙ ap (map (λ p. p.0)) c.deref.ensures.value) (c.in_ok-cells.ensures ∙ ap (map (λ p. p.1)) c.deref-2.ensures.value) c.in_ok-rows.ensures c.in_ok-added.ensures;
}

pub returns-clause-rows : goal.returns-clause-rows
returns-clause-rows c =
    map_whole c.args.pool.now c.values.new.pool c.args.store.now c.values.ensures.keeps c.requires.trees c.args.input.now c.requires.rows c.args.col c.in_ok-found.found.items c.deref-3.result.now c.in_ok-cells.cells.items c.in_ok-rows.rows c.in_ok-added.added
    (c.deref-3.ensures.value ∙ c.in_ok-places.ensures ∙ ap (map (λ p. p.0)) c.deref.ensures.value) (c.in_ok-cells.ensures ∙ ap (map (λ p. p.1)) c.deref-2.ensures.value) c.in_ok-rows.ensures c.in_ok-added.ensures
    (documents_in c.args.pool.now c.args.store.now) c.args.fun c.args.cols.now c.beside.result
    (c.in_ok-found.ensures.found ∙ ap (λ z. valued (λ r. fun_outcome (documents_in c.args.pool.now c.args.store.now) c.args.fun (meanings c.args.pool.now c.args.store.now (cells_of c.args.input.now.cols z r))) 0 c.args.input.now.rows) c.as_slice.ensures.same) c.beside.ensures

pub returns-clause-given : goal.returns-clause-given
returns-clause-given c =
    map_given c.args.pool.now c.values.new.pool c.args.store.now c.values.ensures.keeps c.requires.trees c.args.input.now c.requires.rows c.args.col c.in_ok-found.found.items c.deref-3.result.now c.in_ok-cells.cells.items c.in_ok-rows.rows c.in_ok-added.added
    (c.deref-3.ensures.value ∙ c.in_ok-places.ensures ∙ ap (map (λ p. p.0)) c.deref.ensures.value) (c.in_ok-cells.ensures ∙ ap (map (λ p. p.1)) c.deref-2.ensures.value) c.in_ok-rows.ensures c.in_ok-added.ensures
    c.beside.result c.in_ok-found.ensures.given c.beside.ensures
