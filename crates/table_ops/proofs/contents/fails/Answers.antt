use Rattle.std.proofs.Common.{◌≡◌, ◌<◌, ◌^◌, ◌∙◌, ap, sym, subst, length, true}
use Rattle.doc_table.specs.StoredItems.{ItemsGiven, meanings}
use Rattle.plan_dag.specs.ItemRules.{content_fault}
use Rattle.plan_dag.specs.Meaning.{Table}
use Rattle.plan_dag.specs.Rows.{is_code}
use Rattle.xq_base.specs.declared.item.Item.{Item}
use Rattle.table_ops.specs.Sorting.{columns_given}
use Rattle.table_ops.proofs.CellMoves.{rows_of_given}
use Rattle.table_ops.proofs.ContentLaws.{given_places, content_given, content_long, content_read}
use Rattle.table_ops.proofs.contents.fails.Goals as goal

pub arrange-requires-clause-given : goal.arrange-requires-clause-given
arrange-requires-clause-given c =
    subst (λ (z : Table Item). columns_given (length c.args.pool.now) z.rows ≡ true) (sym c.in_ok-rows.ensures)
    (rows_of_given c.args.pool.now c.args.store.now _ (given_places c.args.pool.now c.args.store.now c.args.input.now.rows c.args.places.now c.requires.rows))

pub fault_of-requires-clause-few : goal.fault_of-requires-clause-few
fault_of-requires-clause-few c =
    subst (λ n. n < 2 ^ 32)
    (sym (ap (λ (z : _). length {A = Item} z) (content_read c.args.pool.now c.args.input.now.cols c.args.wanted.pos c.args.wanted.item c.args.input.now.rows c.args.places.now c.in_ok-rows.rows c.in_ok-sorted.sorted c.by_position.result c.cells-cells.result.now c.in_ok-rows.ensures c.by_position.ensures c.in_ok-sorted.ensures c.cells-cells.ensures)
    ∙ content_long c.args.pool.now c.args.store.now c.args.input.now.cols c.args.wanted.pos c.args.wanted.item c.args.input.now.rows c.requires.rows c.args.places.now))
    c.requires.few

pub fault_of-requires-clause-items : goal.fault_of-requires-clause-items
fault_of-requires-clause-items c =
    subst (ItemsGiven c.args.pool.now c.args.store.now)
    (sym (content_read c.args.pool.now c.args.input.now.cols c.args.wanted.pos c.args.wanted.item c.args.input.now.rows c.args.places.now c.in_ok-rows.rows c.in_ok-sorted.sorted c.by_position.result c.cells-cells.result.now c.in_ok-rows.ensures c.by_position.ensures c.in_ok-sorted.ensures c.cells-cells.ensures))
    (content_given c.args.pool.now c.args.store.now c.args.input.now.cols c.args.wanted.pos c.args.wanted.item c.args.input.now.rows c.requires.rows c.args.places.now)

pub returns : goal.returns
returns c =
    c.is_code.ensures
    ∙ ap (is_code c.args.wanted.code)
    (c.in_ok-found.ensures
    ∙ ap (λ z. content_fault c.args.wanted.place (meanings c.args.pool.now c.args.store.now z))
    (content_read c.args.pool.now c.args.input.now.cols c.args.wanted.pos c.args.wanted.item c.args.input.now.rows c.args.places.now c.in_ok-rows.rows c.in_ok-sorted.sorted c.by_position.result c.cells-cells.result.now c.in_ok-rows.ensures c.by_position.ensures c.in_ok-sorted.ensures c.cells-cells.ensures))
